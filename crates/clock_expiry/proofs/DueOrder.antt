-- The order of entries.
use Rattle.std.proofs.Common.{◌≡◌, ℕ, Bool, true, false, ◌&&◌, ◌||◌, ap, ◌∙◌, arith}
use Rattle.std.specs.Prelude.{nat_lt, ◌==◌}
use Rattle.std.proofs.lemmas.Bool.Decides.{nat_tests}
use Rattle.push_model.specs.declared.ids.MsgId.{MsgId}
use Rattle.clock_expiry.specs.Dues.{is_id_before, is_before, is_due}

-- entries by their numbers
abbrev before_by : ℕ → ℕ → ℕ → ℕ → ℕ → ℕ → Bool
before_by t s n u r m = nat_lt t u || ((t == u) && (nat_lt s r || ((s == r) && nat_lt n m)))

by_asym : (t s n u r m : ℕ) → before_by t s n u r m ≡ true → before_by u r m t s n ≡ false
by_asym t s n u r m h = grind (arith, nat_tests)

by_behind : (t s n u r m v q l : ℕ) → before_by t s n u r m ≡ false → before_by u r m v q l ≡ false → before_by t s n v q l ≡ false
by_behind t s n u r m v q l h k = grind (arith, nat_tests)

by_moment : (t s n u r m : ℕ) → before_by t s n u r m ≡ false → before_by u r m t s n ≡ false → t ≡ u
by_moment t s n u r m h k = grind (arith, nat_tests)

by_shard : (t s n u r m : ℕ) → before_by t s n u r m ≡ false → before_by u r m t s n ≡ false → s ≡ r
by_shard t s n u r m h k = grind (arith, nat_tests)

by_number : (t s n u r m : ℕ) → before_by t s n u r m ≡ false → before_by u r m t s n ≡ false → n ≡ m
by_number t s n u r m h k = grind (arith, nat_tests)

-- of two entries one isn't before the other
pub before-asym : (a b : ℕ × MsgId) → is_before a b ≡ true → is_before b a ≡ false
unfolding is_before is_id_before
before-asym a b h = by_asym a.0 a.1.shard a.1.number b.0 b.1.shard b.1.number h

-- what isn't before one that isn't before a third isn't before the third
pub before-behind : (a b c : ℕ × MsgId) → is_before a b ≡ false → is_before b c ≡ false → is_before a c ≡ false
unfolding is_before is_id_before
before-behind a b c h k = by_behind a.0 a.1.shard a.1.number b.0 b.1.shard b.1.number c.0 c.1.shard c.1.number h k

entry_of : ℕ → ℕ → ℕ → ℕ × MsgId
entry_of t s n = (t, record { shard = s; number = n })

same_entry : (a b : ℕ × MsgId) → a.0 ≡ b.0 → a.1.shard ≡ b.1.shard → a.1.number ≡ b.1.number → a ≡ b
unfolding entry_of
same_entry a b e f g =
    ap (λ t. entry_of t a.1.shard a.1.number) e ∙ ap (λ s. entry_of b.0 s a.1.number) f ∙ ap (λ n. entry_of b.0 b.1.shard n) g

-- two of which neither is before the other are one
pub before-total : (a b : ℕ × MsgId) → is_before a b ≡ false → is_before b a ≡ false → a ≡ b
unfolding is_before is_id_before
before-total a b h k =
    same_entry a b
    (by_moment a.0 a.1.shard a.1.number b.0 b.1.shard b.1.number h k)
    (by_shard a.0 a.1.shard a.1.number b.0 b.1.shard b.1.number h k)
    (by_number a.0 a.1.shard a.1.number b.0 b.1.shard b.1.number h k)

behind_moment : (t s n u r m moment : ℕ) → before_by t s n u r m ≡ false → nat_lt moment u ≡ true → nat_lt moment t ≡ true
behind_moment t s n u r m moment h k = grind (arith, nat_tests)

-- an entry that isn't before another comes no sooner
pub before-moment : (a b : ℕ × MsgId) (moment : ℕ) → is_before a b ≡ false → nat_lt moment b.0 ≡ true → nat_lt moment a.0 ≡ true
unfolding is_before is_id_before
before-moment a b moment h k = behind_moment a.0 a.1.shard a.1.number b.0 b.1.shard b.1.number moment h k

other_by : (t s n u r m : ℕ) → before_by t s n u r m ≡ true → ((t == u) && ((s == r) && (n == m))) ≡ false
other_by t s n u r m h = grind (arith, nat_tests)

-- an entry that is before another is another
pub before-other : (a : ℕ × MsgId) (t : ℕ) (i : MsgId) → is_before a (t, i) ≡ true → is_due t i a ≡ false
unfolding is_before is_id_before
before-other a t i h = other_by a.0 a.1.shard a.1.number t i.shard i.number h
