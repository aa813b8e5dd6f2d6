-- Fewer moves, or the premise on ordering edges, give smaller sets. Assumes nothing.
use mathlib.Core.Path.{◌≡◌, sym, subst, ◌∙◌}
use mathlib.Core.Bool.{Bool, true, false, false≢true}
use mathlib.Core.List.{Memᴰ}
use Prim.Native.Nat.{ℕ}
use Rattle.sections.specs.Plan.{Plan}
use Rattle.graph.specs.Moves.{Move, Has, arcs_of}
use Rattle.graph.specs.Observer.{Observer}
use Rattle.graph.specs.Flow.{Apart, Closed, Flow}
use Rattle.graph.proofs.Least.{flow_closed, flow_least}

-- p, with its observer O, is a part of q with U: the same jobs and nodes, and each move of p is one of q that does the same
pub record Part (p q : Plan) {State : Type 0} (O U : Observer State) : Type 0 where
  pub nodes : p.nodes ≡ q.nodes
  pub jobs : p.jobs ≡ q.jobs
  pub start : O.start ≡ U.start
  pub image : Move → Move
  pub has : (m : Move) → Has p m → Has q (image m)
  pub arcs : (m : Move) → Has p m → arcs_of q (image m) ≡ arcs_of p m
  pub next : (m : Move) (s : State) → Has p m → O.next m s ≡ U.next (image m) s
  pub watched : (m : Move) → Has p m → O.watched m ≡ U.watched (image m)

module _ {p q : Plan} {State : Type 0} {O U : Observer State} (c : Part p q O U) where
  part_apart : (m : Move) → Has p m → {n : ℕ} → Apart p m n → Apart q (c.image m) n
  part_apart m h o = record {
    node = rw (← c.nodes) o.node;
    other = λ a i. rw (← c.jobs) (o.other a (subst (Memᴰ a) (c.arcs m h) i));
  }

  part_closed : (narrow : Bool) → Closed p O narrow (Flow q U narrow)
  part_closed narrow =
      let k = flow_closed q U narrow in
      record {
        enter = λ j l. rw (c.jobs, c.start) (k.enter j (rw (← c.jobs) l));
        carry = λ m s t h f e a i.
            k.carry (c.image m) s t (c.has m h) (λ b x. f b (subst (Memᴰ b) (c.arcs m h) x)) (sym (c.next m s h) ∙ e) a (subst (Memᴰ a) (sym (c.arcs m h)) i);
        hand = λ m s t h f e w n o.
            k.hand (c.image m) s t (c.has m h) (λ b x. f b (subst (Memᴰ b) (c.arcs m h) x)) (sym (c.next m s h) ∙ e)
            (sym (c.watched m h) ∙ w) n (part_apart m h o);
      }

  pub flow_fewer : (narrow : Bool) {n : ℕ} {s : State} → Flow p O narrow n s → Flow q U narrow n s
  flow_fewer narrow = flow_least p O narrow (Flow q U narrow) (part_closed narrow)

pub flow_narrower : (p : Plan) {State : Type 0} (O : Observer State) {n : ℕ} {s : State} → Flow p O true n s → Flow p O false n s
flow_narrower p O =
    let k = flow_closed p O false in
    flow_least p O true (Flow p O false) record {
      enter = k.enter;
      carry = k.carry;
      hand = λ m s t h f e w n o q. k.hand m s t h f e w n o (λ u. absurd (false≢true u));
    }
