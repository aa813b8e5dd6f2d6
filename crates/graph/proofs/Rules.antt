-- The rules in the words of document 01, "Flow rules", a clause for each kind of move; and that they are the three clauses of
-- `Closed`. Assumes nothing.
use mathlib.Core.Path.{◌≡◌, refl}
use mathlib.Core.Bool.{Bool, true}
use mathlib.Core.List.{Memᴰ}
use mathlib.Core.Logic.{◌≢◌}
use mathlib.Core.Option.{some}
use Prim.Native.Nat.{ℕ, ◌<◌}
use lib.ListN.{length}
use Rattle.sections.specs.Plan.{Arc, Plan, arc_at}
use Rattle.plan.specs.Nodes.{job_of, entry_of}
use Rattle.graph.specs.Moves.{Move, step, meeting, mover, Has, arcs_of}
use Rattle.graph.specs.Observer.{Observer}
use Rattle.graph.specs.Flow.{Apart, Held, Closed}
use Rattle.graph.proofs.Moves.{of_one, of_two}

module _ (p : Plan) {State : Type 0} (O : Observer State) (narrow : Bool) (S : ℕ → State → Type 0) where
  pub record Rules : Type 0 where
    -- "each entry holds state 0"
    pub enter : (j : ℕ) → j < length p.jobs → S (entry_of p j) O.start
    -- "a local step takes each state of its from-node, moved by its event, to its to-node"
    pub local : (i : ℕ) (s t : State) → i < length p.steps → S (arc_at p.steps i).from s → O.next (step i) s ≡ some t
        → S (arc_at p.steps i).to t
    -- "a meeting takes each state held by both its from-nodes, moved, to both its to-nodes"
    pub meet_both : (c a : ℕ) (s t : State) → Has p (meeting c a) → S (arc_at p.calls c).from s → S (arc_at p.accepts a).from s
        → O.next (meeting c a) s ≡ some t → S (arc_at p.calls c).to t × S (arc_at p.accepts a).to t
    -- "a watched local step also hands its moved states to every node of every other job"
    pub order_local : (i : ℕ) (s t : State) → i < length p.steps → S (arc_at p.steps i).from s → O.next (step i) s ≡ some t
        → O.watched (step i) ≡ true → (n : ℕ) → n < p.nodes → job_of p n ≢ mover p (arc_at p.steps i) → (narrow ≡ true → S n s) → S n t
    -- "a watched meeting to every node of every third job"
    pub order_meeting : (c a : ℕ) (s t : State) → Has p (meeting c a) → S (arc_at p.calls c).from s → S (arc_at p.accepts a).from s
        → O.next (meeting c a) s ≡ some t → O.watched (meeting c a) ≡ true
        → (n : ℕ) → n < p.nodes → job_of p n ≢ mover p (arc_at p.calls c) → job_of p n ≢ mover p (arc_at p.accepts a)
        → (narrow ≡ true → S n s) → S n t

  pub closed_rules : Closed p O narrow S → Rules
  closed_rules k = record {
    enter = k.enter;
    local = λ i s t h f e. k.carry (step i) s t h (of_one (λ b. S b.from s) f) e _ (Memᴰ.head refl);
    meet_both = λ c a s t h f g e.
        let to = k.carry (meeting c a) s t h (of_two (λ b. S b.from s) f g) e in (to _ (Memᴰ.head refl), to _ (Memᴰ.tail (Memᴰ.head refl)));
    order_local = λ i s t h f e w n l o.
        k.hand (step i) s t h (of_one (λ b. S b.from s) f) e w n record { node = l; other = of_one (λ b. job_of p n ≢ mover p b) o };
    order_meeting = λ c a s t h f g e w n l o q.
        k.hand (meeting c a) s t h (of_two (λ b. S b.from s) f g) e w n record { node = l; other = of_two (λ b. job_of p n ≢ mover p b) o q };
  }

  module _ (r : Rules) where
    carried : (m : Move) (s t : State) → Has p m → Held p S m s → O.next m s ≡ some t
        → (a : Arc) → Memᴰ a (arcs_of p m) → S a.to t
    carried (step i) s t h f e = of_one (λ b. S b.to t) (r.local i s t h (f _ (Memᴰ.head refl)) e)
    carried (meeting c a) s t h f e =
        let to = r.meet_both c a s t h (f _ (Memᴰ.head refl)) (f _ (Memᴰ.tail (Memᴰ.head refl))) e in
        of_two (λ b. S b.to t) to.0 to.1

    handed : (m : Move) (s t : State) → Has p m → Held p S m s → O.next m s ≡ some t
        → O.watched m ≡ true → (n : ℕ) → Apart p m n → (narrow ≡ true → S n s) → S n t
    handed (step i) s t h f e w n o =
        r.order_local i s t h (f _ (Memᴰ.head refl)) e w n o.node (o.other _ (Memᴰ.head refl))
    handed (meeting c a) s t h f e w n o =
        let first = Memᴰ.head refl in
        let second = Memᴰ.tail (Memᴰ.head refl) in
        r.order_meeting c a s t h (f _ first) (f _ second) e w n o.node (o.other _ first) (o.other _ second)

    pub rules_closed : Closed p O narrow S
    rules_closed = record { enter = r.enter; carry = carried; hand = handed }
