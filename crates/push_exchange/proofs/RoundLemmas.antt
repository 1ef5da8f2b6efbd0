-- One board more.
use Rattle.std.proofs.Common.{◌≡◌, ℕ, ◌+◌, ◌<◌, ◌≤◌, ◌&&◌, Bool, true, false, List, [], ◌∷◌, ◌++◌, length, set, get_or, refl, sym, ap, ◌∙◌, subst, arith, below_more, length-set}
use Rattle.std.proofs.lemmas.List.{get_or_append_left, get_or_push, get_or_past, length_push}
use mathlib.Core.Logic.{dite}
use native.Mathlib.Decide.{dec_lt}
use Rattle.push_model.specs.Worlds.{World, start}
use Rattle.push_model.specs.Reached.{IsReached}
use Rattle.std.specs.Bool.{OnFalse, OnTrue}
use Rattle.turn_board.specs.Numbers.{has}
use Rattle.push_exchange.specs.PassViews.{Asked, IsAlone, IsEndOf, IsJoinedPass, IsKept, IsSplitOff, IsUnmoved, PassView, opening_pass}
use Rattle.push_exchange.specs.Boards.{AllAsked, IsSeated, board_at, no_pass, pass_at}
use Rattle.push_exchange.specs.Rounds.{AllEnded, AllJoined, AllSplitOff, AllUnmoved, IsOpened}
use Rattle.push_exchange.proofs.PassLists.{at_each, at_other, at_same, board_read, pass_read, still_seated}

-- ---- a list with one more

module _ {A : Type 0} (d : A) where
  pub push_each : (P : ℕ → A → Type 0) (xs : List A) (x : A) (n : ℕ) → length xs ≡ n → ((k : ℕ) → k < n → P k (get_or xs k d)) → P n x →
      (k : ℕ) → k < n + 1 → P k (get_or (xs ++ x ∷ []) k d)
  push_each P xs x n e h here = below_more (λ k. P k (get_or (xs ++ x ∷ []) k d)) n
      (λ k low. subst (P k) (sym (get_or_append_left xs (x ∷ []) d k (omega arith))) (h k low))
      (subst (P n) (sym (get_or_push xs x d n e)) here)

-- ---- what always holds of the passes, at one of them

module _ (bs : List (List ℕ)) (ps : List PassView) (h : IsSeated bs ps) (k : ℕ) (low : k < 16) where
  pub within : k < length ps
  within = let e = h.wide in omega arith

  pub board_within : k < length bs
  board_within = let e = h.boards in omega arith

  -- what an index reads
  pub is_at : (a : PassView) → a ≡ get_or ps k a → pass_at ps k ≡ a
  is_at a e = pass_read ps k a within e

  pub meets : (a : PassView) (b : List ℕ) → a ≡ get_or ps k a → b ≡ get_or bs k b → a.board ≡ b
  meets a b e f = ap (λ (p : PassView). p.board) (sym (is_at a e)) ∙ (h.over k ∙ board_read bs k b board_within f)

  pub reached : (a : PassView) → a ≡ get_or ps k a → IsReached a.opened
  reached a e = subst (λ (p : PassView). IsReached p.opened) (is_at a e) (h.kept k).opened

pub fresh_kept : (board : List ℕ) (shard : ℕ) → IsKept (opening_pass board shard)
fresh_kept board shard = record {
  opened = record { shard = shard; next = 1; entries = []; legal = tt; is = refl };
  legal = tt;
  each_proper = tt;
  signs = refl;
  mail = λ slot. tt;
}

-- ---- opened

pub opened_none : (bs : List (List ℕ)) (ps : List PassView) → bs ≡ [] → ps ≡ [] → IsOpened 0 bs ps
opened_none bs ps e f = record { boards = ap length e; wide = ap length f; each = λ k low. absurd (let none : ⊥ = omega arith in none) }

pub opened_more : (n : ℕ) (bs : List (List ℕ)) (ps : List PassView) (b : List ℕ) (p : PassView) → IsOpened n bs ps → p ≡ opening_pass b n → IsOpened (n + 1) (bs ++ b ∷ []) (ps ++ p ∷ [])
opened_more n bs ps b p h e = record {
  boards = length_push bs b ∙ ap (λ (m : ℕ). m + 1) h.boards;
  wide = length_push ps p ∙ ap (λ (m : ℕ). m + 1) h.wide;
  each = push_each no_pass (λ k v. v ≡ opening_pass (board_at (bs ++ b ∷ []) k) k) ps p n h.wide
      (λ k low. h.each k low ∙ ap (λ (c : List ℕ). opening_pass c k) (sym (get_or_append_left bs (b ∷ []) [] k (let f = h.boards in omega arith))))
      (e ∙ ap (λ (c : List ℕ). opening_pass c n) (sym (get_or_push bs b [] n h.boards)));
}

pub opened_step : (n : ℕ) (bs cs : List (List ℕ)) (ps qs : List PassView) (b : List ℕ) (p : PassView) → IsOpened n bs ps → cs ≡ bs ++ b ∷ [] → qs ≡ ps ++ p ∷ [] → p ≡ opening_pass b n → IsOpened (n + 1) cs qs
opened_step n bs cs ps qs b p h e f is = subst (λ (c : List (List ℕ)). IsOpened (n + 1) c qs) (sym e) (subst (λ (q : List PassView). IsOpened (n + 1) (bs ++ b ∷ []) q) (sym f) (opened_more n bs ps b p h is))

-- where the pass and the board are there, or neither is
pub either : {P : ℕ → Type 0} → ((k : ℕ) → k < 16 → P k) → ((k : ℕ) → 16 ≤ k → P k) → (k : ℕ) → P k
either {P} f g k = dite (dec_lt k 16) (λ low. f k low) (λ high. g k (omega arith))

pub opened_seated : (bs : List (List ℕ)) (ps : List PassView) → IsOpened 16 bs ps → IsSeated bs ps
opened_seated bs ps h = record {
  wide = h.wide;
  boards = h.boards;
  over = either {P = λ k. (pass_at ps k).board ≡ board_at bs k} (λ k low. ap (λ (p : PassView). p.board) (h.each k low))
      (λ k high. ap (λ (p : PassView). p.board) (get_or_past ps k no_pass (let e = h.wide in omega arith)) ∙ sym (get_or_past bs k [] (let e = h.boards in omega arith)));
  numbered = λ k low. ap (λ (p : PassView). p.opened.shard) (h.each k low);
  kept = either {P = λ k. IsKept (pass_at ps k)} (λ k low. subst IsKept (sym (h.each k low)) (fresh_kept (board_at bs k) k))
      (λ k high. subst IsKept (sym (get_or_past ps k no_pass (let e = h.wide in omega arith))) (fresh_kept [] 0));
}

-- ---- split

unmoved_more : (a b c : PassView) → IsUnmoved a b → IsUnmoved b c → IsUnmoved a c
unmoved_more a b c f g = record {
  same = record { board = g.same.board ∙ f.same.board; number = g.same.number ∙ f.same.number; numbers = g.same.numbers ∙ f.same.numbers; opened = g.same.opened ∙ f.same.opened };
  seen = g.seen ∙ f.seen;
  mail = g.mail ∙ f.mail;
}

split_later : (a b c : PassView) → IsUnmoved a b → IsSplitOff b c → IsSplitOff a c
split_later a b c f g = record {
  board = g.board ∙ f.same.board;
  opened = g.opened ∙ f.same.opened;
  seen = g.seen ∙ f.seen;
  mail = g.mail ∙ f.mail;
  one = g.one;
  fresh = subst (λ (ns : List ℕ). has ns c.number ≡ false) f.same.numbers g.fresh;
  none_own = g.none_own;
  none_own_mail = g.none_own_mail;
}

-- the first n boards gave a new pass each
pub record SplitSo (n : ℕ) (bs : List (List ℕ)) (was ps new : List PassView) : Type 0 where
  pub seated : IsSeated bs ps
  pub stays : AllUnmoved was ps
  pub split : AllSplitOff n was new
  pub kept : (k : ℕ) → k < n → IsKept (pass_at new k)

unmoved_none : (ps : List PassView) → AllUnmoved ps ps
unmoved_none ps = record { wide = refl; each = λ k. record { same = record { board = refl; number = refl; numbers = refl; opened = refl }; seen = refl; mail = refl } }

pub split_none : (bs : List (List ℕ)) (ps room : List PassView) → IsSeated bs ps → room ≡ [] → SplitSo 0 bs ps ps room
split_none bs ps room h e = record {
  seated = h;
  stays = unmoved_none ps;
  split = record { wide = ap length e; each = λ k low. absurd (let none : ⊥ = omega arith in none) };
  kept = λ k low. absurd (let none : ⊥ = omega arith in none);
}

pub split_more : (bs : List (List ℕ)) (was ps new : List PassView) (k : ℕ) (a b v : PassView) → k < 16 → SplitSo k bs was ps new → a ≡ get_or ps k a → IsUnmoved a b → IsSplitOff a v → IsKept b → IsKept v →
    SplitSo (k + 1) bs was (set ps k b) (new ++ v ∷ [])
split_more bs was ps new k a b v low h e moved off kept fresh =
    let inside = within bs ps h.seated k low in
    let at = is_at bs ps h.seated k low a e in
    let moved_at : IsUnmoved (pass_at ps k) b = subst (λ (p : PassView). IsUnmoved p b) (sym at) moved in
    let off_at : IsSplitOff (pass_at ps k) v = subst (λ (p : PassView). IsSplitOff p v) (sym at) off in
    record {
      seated = still_seated ps k b inside bs h.seated moved_at.same.board moved_at.same.opened kept;
      stays = record {
        wide = length-set ps k b ∙ h.stays.wide;
        each = at_each ps k b inside (λ j p. IsUnmoved (pass_at was j) p) (unmoved_more (pass_at was k) (pass_at ps k) b (h.stays.each k) moved_at) (λ j n. h.stays.each j);
      };
      split = record {
        wide = length_push new v ∙ ap (λ (m : ℕ). m + 1) h.split.wide;
        each = push_each no_pass (λ j p. IsSplitOff (pass_at was j) p) new v k h.split.wide h.split.each (split_later (pass_at was k) (pass_at ps k) v (h.stays.each k) off_at);
      };
      kept = push_each no_pass (λ j p. IsKept p) new v k h.split.wide h.kept fresh;
    }

pub past : (ps : List PassView) (k : ℕ) → length ps ≡ 16 → 16 ≤ k → pass_at ps k ≡ no_pass
past ps k e high = get_or_past ps k no_pass (omega arith)

pub split_seated : (bs : List (List ℕ)) (was ps new : List PassView) → IsSeated bs was → SplitSo 16 bs was ps new → IsSeated bs new
split_seated bs was ps new h s = record {
  wide = s.split.wide;
  boards = h.boards;
  over = either {P = λ k. (pass_at new k).board ≡ board_at bs k} (λ k low. (s.split.each k low).board ∙ h.over k)
      (λ k high. ap (λ (p : PassView). p.board) (past new k s.split.wide high ∙ sym (past was k h.wide high)) ∙ h.over k);
  numbered = λ k low. ap (λ (w : World). w.shard) (s.split.each k low).opened ∙ h.numbered k low;
  kept = either {P = λ k. IsKept (pass_at new k)} s.kept (λ k high. subst IsKept (sym (past new k s.split.wide high)) (fresh_kept [] 0));
}

-- ---- join

-- at the first n boards another pass was joined
pub record JoinSo (n : ℕ) (bs : List (List ℕ)) (was others ps : List PassView) : Type 0 where
  pub seated : IsSeated bs ps
  pub joined : AllJoined n was others ps

pub join_none : (bs : List (List ℕ)) (ps others : List PassView) → IsSeated bs ps → JoinSo 0 bs ps others ps
join_none bs ps others h = record {
  seated = h;
  joined = record { wide = refl; each = λ k low. absurd (let none : ⊥ = omega arith in none); rest = λ k high. refl };
}

not_at : (j k : ℕ) → j < k → j ≡ k → ⊥
not_at j k low e = omega arith

not_after : (j k : ℕ) → k + 1 ≤ j → j ≡ k → ⊥
not_after j k high e = omega arith

pub join_more : (bs : List (List ℕ)) (was others ps : List PassView) (k : ℕ) (a o b : PassView) → k < 16 → JoinSo k bs was others ps → a ≡ get_or ps k a → pass_at others k ≡ o → IsJoinedPass a o b → IsKept b →
    JoinSo (k + 1) bs was others (set ps k b)
join_more bs was others ps k a o b low h e at_other_pass done kept =
    let inside = within bs ps h.seated k low in
    let at = is_at bs ps h.seated k low a e in
    let done_at : IsJoinedPass (pass_at ps k) (pass_at others k) b =
    subst (λ (p : PassView). IsJoinedPass p (pass_at others k) b) (sym at) (subst (λ (p : PassView). IsJoinedPass a p b) (sym at_other_pass) done) in
    let done_was : IsJoinedPass (pass_at was k) (pass_at others k) b = subst (λ (p : PassView). IsJoinedPass p (pass_at others k) b) (h.joined.rest k (omega arith)) done_at in
    record {
      seated = still_seated ps k b inside bs h.seated done_at.board done_at.opened kept;
      joined = record {
        wide = length-set ps k b ∙ h.joined.wide;
        each = below_more (λ j. IsJoinedPass (pass_at was j) (pass_at others j) (pass_at (set ps k b) j)) k
            (λ j small. subst (λ (p : PassView). IsJoinedPass (pass_at was j) (pass_at others j) p) (sym (at_other ps k b inside j (not_at j k small))) (h.joined.each j small))
            (subst (λ (p : PassView). IsJoinedPass (pass_at was k) (pass_at others k) p) (sym (at_same ps k b inside)) done_was);
        rest = λ j high. at_other ps k b inside j (not_after j k high) ∙ h.joined.rest j (omega arith);
      };
    }

-- ---- asked

pub record AskSo (n : ℕ) (all : Bool) (bs : List (List ℕ)) (was ps : List PassView) : Type 0 where
  pub seated : IsSeated bs ps
  pub asked : AllAsked n was ps
  pub alone : OnTrue all ((k : ℕ) → k < n → IsAlone (pass_at ps k))
  pub out : OnFalse all ((k : ℕ) × (k < n) × ¬ IsAlone (pass_at ps k))

pub ask_none : (bs : List (List ℕ)) (ps : List PassView) → IsSeated bs ps → AskSo 0 true bs ps ps
ask_none bs ps h = record {
  seated = h;
  asked = record { wide = refl; each = λ k low. absurd (let none : ⊥ = omega arith in none); rest = λ k high. refl };
  alone = λ k low. absurd (let none : ⊥ = omega arith in none);
  out = tt;
}

alone_more : (all r : Bool) (P Q X : Type 0) → OnTrue all P → (r ≡ true → Q) → (P → Q → X) → OnTrue (all && r) X
alone_more true true P Q X h q f = f h (q refl)
alone_more true false P Q X h q f = tt
alone_more false r P Q X h q f = tt

out_more : (all r : Bool) (P Q X : Type 0) → OnFalse all P → (r ≡ false → Q) → (P → X) → (Q → X) → OnFalse (all && r) X
out_more true true P Q X h q f g = tt
out_more true false P Q X h q f g = g (q refl)
out_more false r P Q X h q f g = f h

untrue : (r : Bool) (X : Type 0) → (X → r ≡ true) → r ≡ false → ¬ X
untrue r X f e x = let odd : true ≡ false = sym (f x) ∙ e in absurd (cc)

pub ask_more : (bs : List (List ℕ)) (was ps : List PassView) (k : ℕ) (a b : PassView) (all r : Bool) → k < 16 → AskSo k all bs was ps → a ≡ get_or ps k a → Asked a b → IsKept b →
    (r ≡ true → IsAlone b) → (IsAlone b → r ≡ true) → AskSo (k + 1) (all && r) bs was (set ps k b)
ask_more bs was ps k a b all r low h e asked kept says only =
    let inside = within bs ps h.seated k low in
    let at = is_at bs ps h.seated k low a e in
    let asked_at : Asked (pass_at ps k) b = subst (λ (p : PassView). Asked p b) (sym at) asked in
    let asked_was : Asked (pass_at was k) b = subst (λ (p : PassView). Asked p b) (h.asked.rest k (omega arith)) asked_at in
    let here : pass_at (set ps k b) k ≡ b = at_same ps k b inside in
    let away : (j : ℕ) → j < k → pass_at (set ps k b) j ≡ pass_at ps j = λ j small. at_other ps k b inside j (not_at j k small) in
    record {
      seated = still_seated ps k b inside bs h.seated asked_at.unmoved.same.board asked_at.unmoved.same.opened kept;
      asked = record {
        wide = length-set ps k b ∙ h.asked.wide;
        each = below_more (λ j. Asked (pass_at was j) (pass_at (set ps k b) j)) k
            (λ j small. subst (λ (p : PassView). Asked (pass_at was j) p) (sym (away j small)) (h.asked.each j small))
            (subst (λ (p : PassView). Asked (pass_at was k) p) (sym here) asked_was);
        rest = λ j high. at_other ps k b inside j (not_after j k high) ∙ h.asked.rest j (omega arith);
      };
      alone = alone_more all r ((j : ℕ) → j < k → IsAlone (pass_at ps j)) (IsAlone b) ((j : ℕ) → j < k + 1 → IsAlone (pass_at (set ps k b) j)) h.alone says
          (λ before now_too. below_more (λ j. IsAlone (pass_at (set ps k b) j)) k (λ j small. subst IsAlone (sym (away j small)) (before j small)) (subst IsAlone (sym here) now_too));
      out = out_more all r ((j : ℕ) × (j < k) × ¬ IsAlone (pass_at ps j)) (¬ IsAlone b) ((j : ℕ) × (j < k + 1) × ¬ IsAlone (pass_at (set ps k b) j)) h.out (untrue r (IsAlone b) only)
          (λ t. (t.0, (let small = t.1 in omega arith), (λ w. t.2 (subst IsAlone (away t.0 t.1) w))))
          (λ n. (k, omega arith, (λ w. n (subst IsAlone here w))));
    }

-- ---- finished

pub ended_none : (ps : List PassView) (ws : List World) → ws ≡ [] → AllEnded 0 ps ws
ended_none ps ws e = record { wide = ap length e; each = λ k low. absurd (let none : ⊥ = omega arith in none) }

pub ended_more : (ps : List PassView) (ws : List World) (k : ℕ) (a : PassView) (w : World) → AllEnded k ps ws → pass_at ps k ≡ a → IsEndOf a w → AllEnded (k + 1) ps (ws ++ w ∷ [])
ended_more ps ws k a w h e done = record {
  wide = length_push ws w ∙ ap (λ (m : ℕ). m + 1) h.wide;
  each = push_each (start 0 1) (λ j v. IsEndOf (pass_at ps j) v) ws w k h.wide h.each (subst (λ (p : PassView). IsEndOf p w) (sym e) done);
}
