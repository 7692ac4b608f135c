use Rattle.std.proofs.Common.{refl, subst}
use Rattle.std.specs.Prelude.{IfOk}
use Rattle.std.proofs.Math.Logic.{∥∥₁_map}
use Rattle.std.proofs.lemmas.Result.{IfOk-weaker}
use Rattle.ftc_chain.specs.ChainRun.{ChainRun}
use Rattle.ftc_chain.specs.Slots.{Looks}
use Rattle.ftc_chain.proofs.SlotCalls.{inside_of, idle_seen, looks_at}
use Rattle.ftc_chain.proofs.chain.Chain.look.Goals as goal

pub returns-in-Some : goal.returns-in-Some
returns-in-Some c =
    let given = c.self.inside.given in
    let course = c.self.inside.course in
    subst (λ (run : ChainRun). IfOk c.look.result (λ bytes. ∥ Looks run c.args.worker bytes ∥₁)) c.self.view_is
    (IfOk-weaker c.look.result _ _ (λ bytes are. ∥∥₁_map c.self.invariant.1 (λ is.
    looks_at given course c.args.worker c.in-Some.server bytes is
    (inside_of given course c.in-Some.server is c.in-Some.ensures.inside) c.in-Some.ensures.some
    c.what_slots_ask.ensures.bytes are)) c.look.ensures)

pub returns-in-None : goal.returns-in-None
returns-in-None c =
    ∣ idle_seen c.self.inside.given c.self.inside.course c.args.self.now c.self.view_is c.args.worker
    (c.in-None.ensures.none refl) ∣₁
