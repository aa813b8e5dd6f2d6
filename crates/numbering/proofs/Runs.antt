-- The numbered automaton moves as the machine does: the number to which a string leads is that of the state to which it
-- leads.
use mathlib.Core.Path.{◌≡◌, refl, sym, ap, subst, ◌∙◌}
use mathlib.Core.List.{List, [], ◌∷◌}
use mathlib.Core.Option.{Option, none, some, map, none-ne-some, some-injective}
use Prim.Native.Nat.{ℕ, ◌<◌}
use lib.ListN.{length, get_or}
use Rattle.numbering.specs.Numbering.{Machine, index, states}
use Rattle.numbering.specs.Reachable.{Decides, Reachable, begin, onward, Has, Numbers, Over, Runs, RunsNumbers}
use Rattle.numbering.proofs.Index.{index_found}
use Rattle.numbering.proofs.Exact.{states_numbers, start_first}

-- an option that is there after a function was there before
map_some : {A B : Type 0} (f : A → B) (o : Option A) (b : B) → map f o ≡ some b → (a : A) × (o ≡ some a) × (f a ≡ b)
map_some f none b e = absurd (none-ne-some b e)
map_some f (some a) b e = (a, refl, some-injective (f a) b e)

module _ {State Label : Type 0} (M : Machine State Label) (D : Decides M.same) (es : List State) (N : Numbers M es) where
  found : (d : State) → Reachable M d → get_or es (index M d es) M.start ≡ d
  found d r = index_found M D d es M.start (N.numbered d r)

  zero_lt : 0 < length es
  zero_lt = subst (λ (k : ℕ). k < length es) N.first (N.numbered M.start begin)

  -- ---- from any state, and from any number

  runs_from : (w : List Label) → Over M w → (d z : State) → Reachable M d → Runs M d w z → Has M z es × RunsNumbers M es (index M d es) w (index M z es)
  runs_from [] o d z r q = (subst (λ (x : State). Has M x es) q (N.numbered d r), ap (λ (x : State). index M x es) q)
  runs_from (l ∷ w) o d z r q =
      let ih = runs_from w o.1 q.0 z (onward r o.0 q.1) q.2 in
      (ih.0, (index M q.0 es, rw (found d r, q.1), ih.1))

  numbers_from : (w : List Label) → Over M w → (k n : ℕ) → k < length es → RunsNumbers M es k w n
      → (n < length es) × Runs M (get_or es k M.start) w (get_or es n M.start)
  numbers_from [] o k n h q = (subst (λ (i : ℕ). i < length es) q h, ap (λ (i : ℕ). get_or es i M.start) q)
  numbers_from (l ∷ w) o k n h q =
      let m = map_some (λ (t : State). index M t es) (M.next l (get_or es k M.start)) q.0 q.1 in
      let r : Reachable M m.0 = onward (N.reachable k h) o.0 m.1 in
      let e : get_or es q.0 M.start ≡ m.0 = ap (λ (i : ℕ). get_or es i M.start) (sym m.2) ∙ found m.0 r in
      let ih = numbers_from w o.1 q.0 n (subst (λ (i : ℕ). i < length es) m.2 (N.numbered m.0 r)) q.2 in
      (ih.0, (m.0, m.1, subst (λ (x : State). Runs M x w (get_or es n M.start)) e ih.1))

module _ {State Label : Type 0} (M : Machine State Label) (D : Decides M.same) (limit : ℕ) (es : List State) (S : states M limit ≡ some es) where
  N : Numbers M es
  N = (states_numbers M D limit es S).0

  -- ---- from the start, which is number 0

  -- a string leads to a state: it leads to the number of that state
  pub runs_number : (w : List Label) → Over M w → (z : State) → Runs M M.start w z → Has M z es × RunsNumbers M es 0 w (index M z es)
  runs_number w o z q =
      let r = runs_from M D es N w o M.start z begin q in
      (r.0, subst (λ (k : ℕ). RunsNumbers M es k w (index M z es)) N.first r.1)

  -- a string leads to a number: it leads to the state with that number
  pub number_runs : (w : List Label) → Over M w → (n : ℕ) → RunsNumbers M es 0 w n → (n < length es) × Runs M M.start w (get_or es n M.start)
  number_runs w o n q =
      let r = numbers_from M D es N w o 0 n (zero_lt M D es N) q in
      (r.0, subst (λ (d : State). Runs M d w (get_or es n M.start)) (start_first M D es M.start N) r.1)
