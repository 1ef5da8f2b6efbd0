-- An index that names the user of each thing that a cell has, as the cells change and as the index does.
use Rattle.std.proofs.Common.{◌≡◌, ℕ, Bool, true, false, cond, ◌⊎◌, inl, inr, List, refl, ap, sym, subst, ◌∙◌, arith}
use Rattle.std.specs.Prelude.{Option, Some, None, IfSome, is_some, option_map, find, if◌then◌else◌}
use Rattle.std.specs.Map.{lookup}
use Rattle.std.specs.Ordering.{nat_cmp}
use Rattle.std.specs.BTreeMap.{is_at}
use Rattle.std.proofs.lemmas.Map.Made.{lookup-map_values}
use Rattle.std.proofs.lemmas.Bool.Decides.{nat_tests}
use Rattle.push_model.specs.declared.ids.Uaid.{Uaid}
use Rattle.push_model.specs.Cells.{Cell, empty_cell, is_there}
use Rattle.push_model.specs.Worlds.{World, cell_at, each, found_or_empty}
use Rattle.push_model.specs.Reached.{IsReached}
use Rattle.push_model.proofs.Members.{find_in, find_passes}
use Rattle.push_model.proofs.Single.{none_found}
use Rattle.push_model.proofs.Entries.{at_same, lookup_in}
use Rattle.push_model.proofs.Reached.{reached_there}
use Rattle.shard_core.specs.Made.{Puts}
use Rattle.shard_core.specs.Owners.{IsComplete, IsHeld, IsSound, NamesHolder, if_held, passing, owned}

at_true : (n k : ℕ) → is_at (nat_cmp n) k ≡ true → k ≡ n
at_true n k e = grind (arith, nat_tests)

module _ {K : Type 0} (has : K → Cell → Bool) where
  -- at the number n
  abbrev Names : (K → Option ℕ) → ℕ → Option Cell → Type 0
  Names owner n o = IfSome o (λ c. (k : K) → has k c ≡ true → owner k ≡ Some n)

  -- no cell has it
  abbrev pub NoneHas : K → List (ℕ × Cell) → Type 0
  NoneHas k es = (n : ℕ) → IfSome (lookup (is_at (nat_cmp n)) es) (λ c. has k c ≡ false)

  -- ---- the cell of one user

  names_found : (owner : K → Option ℕ) (u : Uaid) (o : Option Cell) → ((k : K) → has k (empty_cell u) ≡ false) → Names owner u.0 o →
      (k : K) → has k (found_or_empty o u) ≡ true → owner k ≡ Some u.0
  names_found owner u None none h k e = let f = none k in cc
  names_found owner u (Some c) none h k e = h k e

  -- whom the index names for what the user's cell has
  pub complete_at : (owner : K → Option ℕ) (u : Uaid) (es : List (ℕ × Cell)) → ((k : K) → has k (empty_cell u) ≡ false) → IsComplete has owner es →
      (k : K) → has k (cell_at es u) ≡ true → owner k ≡ Some u.0
  complete_at owner u es none h k e = names_found owner u (lookup (is_at (nat_cmp u.0)) es) none (h u.0) k e

  names_put : (owner : K → Option ℕ) (u : Uaid) (v : Cell) (n : ℕ) (b there : Bool) (o : Option Cell) → is_at (nat_cmp u.0) n ≡ b → Names owner n o →
      ((k : K) → has k v ≡ true → owner k ≡ Some u.0) → Names owner n (if b then (if there then Some v else None) else o)
  names_put owner u v n true true o e old new = λ k h. new k h ∙ ap Some (sym (at_true u.0 n e))
  names_put owner u v n true false o e old new = tt
  names_put owner u v n false there o e old new = old

  -- another cell in its place
  pub complete_put : (owner : K → Option ℕ) (u : Uaid) (v : Cell) (es fs : List (ℕ × Cell)) → Puts u v es fs → IsComplete has owner es →
      ((k : K) → has k v ≡ true → owner k ≡ Some u.0) → IsComplete has owner fs
  complete_put owner u v es fs p old new = λ n.
      subst (Names owner n) (sym (p.updates n))
      (names_put owner u v n (is_at (nat_cmp u.0) n) (is_there v) (lookup (is_at (nat_cmp n)) es) refl (old n) new)

  left_by : (owner : K → Option ℕ) (k : K) (u : Uaid) (n : ℕ) (b : Bool) → is_at (nat_cmp u.0) n ≡ false → (b ≡ true → owner k ≡ Some u.0) →
      owner k ≡ Some n → cond b None (owner k) ≡ Some n
  left_by owner k u n true e mine h = let same : Some u.0 ≡ Some n = sym (mine refl) ∙ h in let there = at_same u.0 n (cc) in cc
  left_by owner k u n false e mine h = h

  names_without : (owner after : K → Option ℕ) (u : Uaid) (c v : Cell) (n : ℕ) (b there : Bool) (o : Option Cell) → is_at (nat_cmp u.0) n ≡ b →
      ((k : K) → after k ≡ cond (has k c) None (owner k)) → ((k : K) → has k c ≡ true → owner k ≡ Some u.0) → ((k : K) → has k v ≡ false) →
      Names owner n o → Names after n (if b then (if there then Some v else None) else o)
  names_without owner after u c v n true true o e left mine gone h = λ k i. let f = gone k in cc
  names_without owner after u c v n true false o e left mine gone h = tt
  names_without owner after u c v n false there None e left mine gone h = tt
  names_without owner after u c v n false there (Some d) e left mine gone h = λ k i. left k ∙ left_by owner k u n (has k c) e (mine k) (h k i)

  -- a cell without any, where the index forgets those of the user
  pub complete_without : (owner after : K → Option ℕ) (u : Uaid) (v : Cell) (es fs : List (ℕ × Cell)) → Puts u v es fs →
      ((k : K) → has k (empty_cell u) ≡ false) → ((k : K) → has k v ≡ false) → ((k : K) → after k ≡ cond (has k (cell_at es u)) None (owner k)) →
      IsComplete has owner es → IsComplete has after fs
  complete_without owner after u v es fs p none gone left old = λ n.
      subst (Names after n) (sym (p.updates n))
      (names_without owner after u (cell_at es u) v n (is_at (nat_cmp u.0) n) (is_there v) (lookup (is_at (nat_cmp n)) es) refl left (complete_at owner u es none old) gone (old n))

  -- ---- each cell

  names_mapped : (owner : K → Option ℕ) (f : Cell → Cell) (n : ℕ) (o : Option Cell) → ((k : K) (c : Cell) → has k (f c) ≡ has k c) → Names owner n o →
      Names owner n (option_map f o)
  names_mapped owner f n None same h = tt
  names_mapped owner f n (Some c) same h = λ k e. h k (sym (same k c) ∙ e)

  -- where f leaves what a cell has
  pub complete_each : (owner : K → Option ℕ) (f : Cell → Cell) (es : List (ℕ × Cell)) → ((k : K) (c : Cell) → has k (f c) ≡ has k c) →
      IsComplete has owner es → IsComplete has owner (each f es)
  complete_each owner f es same h = λ n.
      subst (Names owner n) (sym (lookup-map_values f (is_at (nat_cmp n)) es)) (names_mapped owner f n (lookup (is_at (nat_cmp n)) es) same (h n))

  -- ---- the index

  names_by : (owner : K → Option ℕ) (k q : K) (w : Option ℕ) (n : ℕ) (c : Cell) (b : Bool) → (b ≡ true → q ≡ k) → has k c ≡ false → has q c ≡ true →
      owner q ≡ Some n → cond b w (owner q) ≡ Some n
  names_by owner k q w n c true one none e h = let f = ap (λ x. has x c) (one refl) ∙ none in cc
  names_by owner k q w n c false one none e h = h

  names_changed : (owner after : K → Option ℕ) (k : K) (same : K → Bool) (w : Option ℕ) (n : ℕ) (o : Option Cell) → ((q : K) → same q ≡ true → q ≡ k) →
      ((q : K) → after q ≡ cond (same q) w (owner q)) → IfSome o (λ c. has k c ≡ false) → Names owner n o → Names after n o
  names_changed owner after k same w n None one changes none h = tt
  names_changed owner after k same w n (Some c) one changes none h = λ q e. changes q ∙ names_by owner k q w n c (same q) (one q) none e (h q e)

  -- whom it names for what no cell has may change
  pub complete_changed : (owner after : K → Option ℕ) (k : K) (same : K → Bool) (w : Option ℕ) (es : List (ℕ × Cell)) → ((q : K) → same q ≡ true → q ≡ k) →
      ((q : K) → after q ≡ cond (same q) w (owner q)) → NoneHas k es → IsComplete has owner es → IsComplete has after es
  complete_changed owner after k same w es one changes none h = λ n.
      names_changed owner after k same w n (lookup (is_at (nat_cmp n)) es) one changes (none n) (h n)

  -- ---- a look-up by it

  passes_not : (p : Cell → Bool) (c : Cell) (b : Bool) → p c ≡ b → (if b then Some c else None) ≡ None → p c ≡ false
  passes_not p c true e h = cc
  passes_not p c false e h = e

  false_by : (b : Bool) → (b ≡ true → ⊥) → b ≡ false
  false_by true f = absurd (f refl)
  false_by false f = refl

  named_none : (p : Cell → Bool) (owner : Option ℕ) (n : ℕ) (c : Cell) (es : List (ℕ × Cell)) → lookup (is_at (nat_cmp n)) es ≡ Some c →
      owned p owner es ≡ None → owner ≡ Some n → p c ≡ false
  named_none p owner n c es l o e =
      let there : passing p (lookup (is_at (nat_cmp n)) es) ≡ None = ap (λ w. owned p w es) (sym e) ∙ o in
      let here : passing p (Some c) ≡ None = ap (passing p) (sym l) ∙ there in
      passes_not p c (p c) refl here

  none_at : (owner : K → Option ℕ) (k : K) (n : ℕ) (o : Option Cell) (es : List (ℕ × Cell)) → lookup (is_at (nat_cmp n)) es ≡ o →
      owned (has k) (owner k) es ≡ None → Names owner n o → IfSome o (λ c. has k c ≡ false)
  none_at owner k n None es l w h = tt
  none_at owner k n (Some c) es l w h = false_by (has k c) (λ e. let f = named_none (has k) (owner k) n c es l w (h k e) in cc)

  -- where the cell that it names hasn't the thing, none has
  pub none_owned : (owner : K → Option ℕ) (k : K) (es : List (ℕ × Cell)) → IsComplete has owner es → owned (has k) (owner k) es ≡ None → NoneHas k es
  none_owned owner k es h w = λ n. none_at owner k n (lookup (is_at (nat_cmp n)) es) es refl w (h n)

  none_there : (k : K) (n : ℕ) (o : Option Cell) (es : List (ℕ × Cell)) → find (λ e. has k e.1) es ≡ None → lookup (is_at (nat_cmp n)) es ≡ o →
      IfSome o (λ c. has k c ≡ false)
  none_there k n None es f l = tt
  none_there k n (Some c) es f l =
      let r = lookup_in n es c l in
      ap (has k) (sym r.3) ∙ none_found (λ e. has k e.1) es f r.0 r.1

  -- where none is found that has it, none has
  pub none_has : (k : K) (es : List (ℕ × Cell)) → find (λ e. has k e.1) es ≡ None → NoneHas k es
  none_has k es f = λ n. none_there k n (lookup (is_at (nat_cmp n)) es) es f refl

  passing_none : (k : K) (o : Option Cell) → IfSome o (λ c. has k c ≡ false) → passing (has k) o ≡ None
  passing_none k None h = refl
  passing_none k (Some c) h = ap (λ b. if b then Some c else None) h

  owned_none : (k : K) (w : Option ℕ) (es : List (ℕ × Cell)) → NoneHas k es → owned (has k) w es ≡ None
  owned_none k None es h = refl
  owned_none k (Some n) es h = passing_none k (lookup (is_at (nat_cmp n)) es) (h n)

  owned_there : (owner : K → Option ℕ) (k : K) (c : Cell) (es : List (ℕ × Cell)) → lookup (is_at (nat_cmp c.uaid.0)) es ≡ Some c → has k c ≡ true →
      IsComplete has owner es → owned (has k) (owner k) es ≡ Some c
  owned_there owner k c es l e h =
      let named : owner k ≡ Some c.uaid.0 = (subst (Names owner c.uaid.0) l (h c.uaid.0)) k e in
      ap (λ w. owned (has k) w es) named ∙ ap (passing (has k)) l ∙ ap (λ b. if b then Some c else None) e

  owned_by : (owner : K → Option ℕ) (k : K) (w : World) (o : Option (ℕ × Cell)) → IsReached w → IsComplete has owner w.cells →
      find (λ e. has k e.1) w.cells ≡ o → owned (has k) (owner k) w.cells ≡ option_map (λ e. e.1) o
  owned_by owner k w None r h f = owned_none k (owner k) w.cells (none_has k w.cells f)
  owned_by owner k w (Some e) r h f =
      owned_there owner k e.1 w.cells (reached_there w e r (find_in (λ d. has k d.1) e w.cells f)) (find_passes (λ d. has k d.1) e w.cells f) h

  -- it finds the first cell that has the thing
  pub owned_first : (owner : K → Option ℕ) (k : K) (w : World) (es : List (ℕ × Cell)) → es ≡ w.cells → IsReached w → IsComplete has owner es →
      owned (has k) (owner k) es ≡ option_map (λ e. e.1) (find (λ e. has k e.1) w.cells)
  owned_first owner k w es s r h =
      ap (owned (has k) (owner k)) s ∙ owned_by owner k w (find (λ e. has k e.1) w.cells) r (subst (IsComplete has owner) s h) refl

  -- ---- an index that names only holders

  held_found : (k : K) (u : Uaid) (o : Option Cell) → IsHeld (has k) o → has k (found_or_empty o u) ≡ true
  held_found k u None h = absurd h
  held_found k u (Some c) h = h

  held_put : (k : K) (v : Cell) (b there : Bool) (o : Option Cell) → IsHeld (has k) o → (b ≡ true → (has k v ≡ true) × (there ≡ true)) →
      IsHeld (has k) (if b then (if there then Some v else None) else o)
  held_put k v true true o old new = (new refl).0
  held_put k v true false o old new = let there = (new refl).1 in absurd (cc there)
  held_put k v false there o old new = old

  named_put : (u : Uaid) (v : Cell) (es fs : List (ℕ × Cell)) (k : K) (o : Option ℕ) → Puts u v es fs →
      (has k (cell_at es u) ≡ true → (has k v ≡ true) × (is_there v ≡ true)) → IfSome o (λ n. IsHeld (has k) (lookup (is_at (nat_cmp n)) es)) →
      IfSome o (λ n. IsHeld (has k) (lookup (is_at (nat_cmp n)) fs))
  named_put u v es fs k None p kept h = tt
  named_put u v es fs k (Some n) p kept h =
      subst (IsHeld (has k)) (sym (p.updates n))
      (held_put k v (is_at (nat_cmp u.0) n) (is_there v) (lookup (is_at (nat_cmp n)) es) h
      (λ e. kept (held_found k u (lookup (is_at (nat_cmp u.0)) es) (subst (λ (m : ℕ). IsHeld (has k) (lookup (is_at (nat_cmp m)) es)) (at_true u.0 n e) h))))

  -- another cell in the place of one, which has the thing if that had it
  pub holder_put : (owner : K → Option ℕ) (u : Uaid) (v : Cell) (es fs : List (ℕ × Cell)) (k : K) → Puts u v es fs →
      (has k (cell_at es u) ≡ true → (has k v ≡ true) × (is_there v ≡ true)) → NamesHolder has owner es k → NamesHolder has owner fs k
  holder_put owner u v es fs k p kept h = named_put u v es fs k (owner k) p kept h

  held_mapped : (f : Cell → Cell) (k : K) (o : Option Cell) → ((c : Cell) → has k (f c) ≡ has k c) → IsHeld (has k) o → IsHeld (has k) (option_map f o)
  held_mapped f k None same h = h
  held_mapped f k (Some c) same h = same c ∙ h

  named_each : (f : Cell → Cell) (es : List (ℕ × Cell)) (k : K) (o : Option ℕ) → ((c : Cell) → has k (f c) ≡ has k c) →
      IfSome o (λ n. IsHeld (has k) (lookup (is_at (nat_cmp n)) es)) → IfSome o (λ n. IsHeld (has k) (lookup (is_at (nat_cmp n)) (each f es)))
  named_each f es k None same h = tt
  named_each f es k (Some n) same h =
      subst (IsHeld (has k)) (sym (lookup-map_values f (is_at (nat_cmp n)) es)) (held_mapped f k (lookup (is_at (nat_cmp n)) es) same h)

  -- every cell, where f leaves what a cell has
  pub sound_each : (owner : K → Option ℕ) (f : Cell → Cell) (es : List (ℕ × Cell)) → ((k : K) (c : Cell) → has k (f c) ≡ has k c) →
      IsSound has owner es → IsSound has owner (each f es)
  sound_each owner f es same h = λ k. named_each f es k (owner k) (same k) (h k)

  passes_by : (c : Cell) (b : Bool) → is_some (if b then Some c else None) ≡ true → b ≡ true
  passes_by c true e = refl
  passes_by c false e = e

  held_passing : (p : Cell → Bool) (o : Option Cell) → is_some (passing p o) ≡ true → IsHeld p o
  held_passing p None e = absurd (cc e)
  held_passing p (Some c) e = passes_by c (p c) e

  named_held : (p : Cell → Bool) (o : Option ℕ) (es : List (ℕ × Cell)) (b : Bool) → is_some (owned p o es) ≡ b →
      IfSome (if b then o else None) (λ n. IsHeld p (lookup (is_at (nat_cmp n)) es))
  named_held p None es true e = tt
  named_held p None es false e = tt
  named_held p (Some n) es true e = held_passing p (lookup (is_at (nat_cmp n)) es) e
  named_held p (Some n) es false e = tt

  holder_left : (owner after : K → Option ℕ) (k q : K) (b : Bool) (es : List (ℕ × Cell)) → (b ≡ true → q ≡ k) →
      after q ≡ (if b then if_held (has k) (owner k) es else owner q) → (b ≡ false → NamesHolder has owner es q) → NamesHolder has after es q
  holder_left owner after k q true es one e old =
      subst (λ (o : Option ℕ). IfSome o (λ n. IsHeld (has q) (lookup (is_at (nat_cmp n)) es))) (sym e)
      (subst (λ (z : K). IfSome (if_held (has k) (owner k) es) (λ n. IsHeld (has z) (lookup (is_at (nat_cmp n)) es))) (sym (one refl))
      (named_held (has k) (owner k) es (is_some (owned (has k) (owner k) es)) refl))
  holder_left owner after k q false es one e old =
      subst (λ (o : Option ℕ). IfSome o (λ n. IsHeld (has q) (lookup (is_at (nat_cmp n)) es))) (sym e) (old refl)

  -- the index after k was forgotten, unless the cell that it names has it
  abbrev pub Forgot : K → (K → Bool) → (K → Option ℕ) → (K → Option ℕ) → List (ℕ × Cell) → Type 0
  Forgot k same owner after es = (q : K) → after q ≡ (if same q then if_held (has k) (owner k) es else owner q)

  -- it was taken out
  pub forgot_gone : (owner after : K → Option ℕ) (k : K) (same : K → Bool) (es : List (ℕ × Cell)) → ((q : K) → after q ≡ cond (same q) None (owner q)) →
      owned (has k) (owner k) es ≡ None → Forgot k same owner after es
  forgot_gone owner after k same es changes none q =
      changes q ∙ ap (λ (o : Option Cell). if same q then (if is_some o then owner k else None) else owner q) (sym none)

  named_same : (owner : K → Option ℕ) (k q : K) (b : Bool) → (b ≡ true → q ≡ k) → owner q ≡ (if b then owner k else owner q)
  named_same owner k q true one = ap owner (one refl)
  named_same owner k q false one = refl

  -- or all stay
  pub forgot_kept : (owner : K → Option ℕ) (k : K) (same : K → Bool) (es : List (ℕ × Cell)) → ((q : K) → same q ≡ true → q ≡ k) →
      is_some (owned (has k) (owner k) es) ≡ true → Forgot k same owner owner es
  forgot_kept owner k same es one some q =
      named_same owner k q (same q) (one q)
      ∙ ap (λ (b : Bool). if same q then (if b then owner k else None) else owner q) (sym some)

  -- it is sound, if it was so for all others
  pub forgot_sound : (owner after : K → Option ℕ) (k : K) (same : K → Bool) (es : List (ℕ × Cell)) → ((q : K) → same q ≡ true → q ≡ k) →
      Forgot k same owner after es → ((q : K) → same q ≡ false → NamesHolder has owner es q) → IsSound has after es
  forgot_sound owner after k same es one left old = λ q. holder_left owner after k q (same q) es (one q) (left q) (old q)

  other_holder : (o : Option K) (k q : K) (same : K → Bool) (P : Type 0) → o ≡ Some k → same k ≡ true → same q ≡ false → (o ≡ Some q) ⊎ P → P
  other_holder o k q same P is itself other (inl e) =
      let one : k ≡ q = cc in
      let there : same q ≡ true = ap same (sym one) ∙ itself in
      absurd (cc (other, there))
  other_holder o k q same P is itself other (inr p) = p

  -- as it was for all but k
  pub lost_sound : (owner after : K → Option ℕ) (o : Option K) (k : K) (same : K → Bool) (es : List (ℕ × Cell)) → o ≡ Some k → same k ≡ true →
      ((q : K) → same q ≡ true → q ≡ k) → Forgot k same owner after es → ((q : K) → (o ≡ Some q) ⊎ NamesHolder has owner es q) → IsSound has after es
  lost_sound owner after o k same es is itself one left held =
      forgot_sound owner after k same es one left (λ q other. other_holder o k q same (NamesHolder has owner es q) is itself other (held q))

  none_lost : (o : Option K) (q : K) (P : Type 0) → o ≡ None → (o ≡ Some q) ⊎ P → P
  none_lost o q P is (inl e) = absurd (cc (is, e))
  none_lost o q P is (inr p) = p

  -- or for all
  pub unlost_sound : (owner : K → Option ℕ) (o : Option K) (es : List (ℕ × Cell)) → o ≡ None →
      ((q : K) → (o ≡ Some q) ⊎ NamesHolder has owner es q) → IsSound has owner es
  unlost_sound owner o es is held = λ q. none_lost o q (NamesHolder has owner es q) is (held q)

  -- whom it names for other things doesn't matter
  pub holder_same : (owner after : K → Option ℕ) (es : List (ℕ × Cell)) (k : K) → after k ≡ owner k → NamesHolder has owner es k → NamesHolder has after es k
  holder_same owner after es k e h = subst (λ (o : Option ℕ). IfSome o (λ n. IsHeld (has k) (lookup (is_at (nat_cmp n)) es))) (sym e) h
