use Rattle.std.proofs.Common.{◌≡◌, ℕ, Some, None, subst, ap, arith}
use Rattle.std.specs.Prelude.{IfSome}
use Rattle.std.proofs.Math.Logic.{∥∥₁_map, ∥∥₁_elim}
use Rattle.ftc_journal.specs.declared.job.Job.TheVariants.{Take}
use Rattle.ftc_protocol.specs.Jobs.{IsLegalJob}
use Rattle.ftc_protocol.specs.Setting.{servers}
use Rattle.ftc_ring.specs.Ring.{RingShape}
use Rattle.ftc_chain.specs.ChainRun.{ChainRun, setting_in, chain_state}
use Rattle.ftc_chain.specs.Course.{state_by}
use Rattle.ftc_chain.specs.Doing.{setting_by}
use Rattle.ftc_chain.proofs.AtRest.{none_is}
use Rattle.ftc_chain.proofs.LinkFrames.{rests, if_told, told_once}
use Rattle.ftc_chain.proofs.Releases.{is_run_state}
use Rattle.ftc_chain.proofs.chain.Chain.oldest.Goals as goal

pub returns-then-number-servers-clause-only : goal.returns-then-number-servers-clause-only
returns-then-number-servers-clause-only c =
    let given = c.self.inside.given in
    let course = c.self.inside.course in
    let setting = setting_by given in
    let state = state_by setting course.journal.items in
    subst (λ (run : ChainRun). (origin : ℕ) → IsLegalJob (setting_in run) (chain_state run) (Take c.args.link origin) →
    None ≡ Some origin) c.self.view_is
    (λ origin legal. absurd (∥∥₁_elim c.self.invariant.1 none_is (λ resting.
    let size : course.network.ring.servers ≡ servers setting =
    ap (λ (ring : RingShape). ring.servers) resting.course_is.stands.ring in
    c.what_a_link_offers.ensures.outside setting state c.args.link origin
    (is_run_state setting course resting.course_is) (omega (arith, size, c.number.ensures, c.servers.ensures)) legal)))

pub returns-clause-some : goal.returns-clause-some
returns-clause-some c =
    let given = c.self.inside.given in
    let course = c.self.inside.course in
    let setting = setting_by given in
    let state = state_by setting course.journal.items in
    subst (λ (run : ChainRun). IfSome c.oldest_at.result (λ (origin : ℕ).
    ∥ IsLegalJob (setting_in run) (chain_state run) (Take c.args.link origin) ∥₁)) c.self.view_is
    (if_told c.oldest_at.result _ (λ origin is. ∥∥₁_map c.self.invariant.1 (λ resting.
    (c.oldest_at.ensures setting state origin (rests setting course resting)).0 is)))

pub returns-clause-only : goal.returns-clause-only
returns-clause-only c =
    let given = c.self.inside.given in
    let course = c.self.inside.course in
    let setting = setting_by given in
    let state = state_by setting course.journal.items in
    subst (λ (run : ChainRun). (origin : ℕ) → IsLegalJob (setting_in run) (chain_state run) (Take c.args.link origin) →
    c.oldest_at.result ≡ Some origin) c.self.view_is
    (λ origin legal. told_once c.oldest_at.result origin (∥∥₁_map c.self.invariant.1 (λ resting.
    (c.oldest_at.ensures setting state origin (rests setting course resting)).1 legal)))
