use Rattle.std.proofs.Common.{◌≡◌, ◌∙◌, ◌++◌, [], ◌∷◌, ℕ, true, false, List, map, ap, sym, subst}
use Rattle.ftc_base.specs.declared.limits.TheConstants.{MOST_SLOTS}
use Rattle.std.proofs.Math.Bool.{Bool-set}
use Rattle.std.proofs.Math.Logic.{∥∥₁_elim, ∥∥₁_map₂}
use Rattle.ftc_base.specs.declared.ask.Answer.{Answer}
use Rattle.ftc_base.proofs.Results.{on_any_err}
use Rattle.ftc_journal.specs.declared.event.Event.{Event}
use Rattle.ftc_journal.specs.declared.event.Event.TheVariants as event
use Rattle.ftc_protocol.specs.Legal.{IsLegal}
use Rattle.ftc_protocol.specs.Next.{next}
use Rattle.ftc_refinement.specs.Contents.{IsServerAt}
use Rattle.ftc_visits.specs.Made.{AreMade, IsMadeBy, mark_of}
use Rattle.ftc_server.specs.Holding.{found}
use Rattle.ftc_server.specs.Looks.{work_in}
use Rattle.ftc_server.specs.Work.{work_for_found}
use Rattle.ftc_server.specs.Replicas.{may_rise}
use Rattle.ftc_server.specs.State.{ServerState}
use Rattle.ftc_network.specs.Parts.{buffer_of}
use Rattle.ftc_network.specs.Stand.{IsSlot, IsUp}
use Rattle.ftc_network.proofs.Allowed.{at_up}
use Rattle.ftc_network.proofs.ReadySlots.{idle_ready}
use Rattle.ftc_network.proofs.Untold.{is_below}
use Rattle.ftc_network.proofs.VisitWork.{is_visit, visit_if, visit_is}
use Rattle.ftc_network.proofs.making.visit_at.Goals as goal

pub quit_all-requires : goal.quit_all-requires
quit_all-requires c worker running runs = is_below worker MOST_SLOTS c.requires (λ given.
    let up : IsUp given.setting given.state c.args.server c.in-Some.live =
    subst (IsSlot given.setting given.state c.args.server) c.in-Some.is given.stands in
    up.ready.within worker running runs)

pub visit_whole-requires-clause-work : goal.visit_whole-requires-clause-work
visit_whole-requires-clause-work c =
    ap (λ (s : ServerState). work_for_found s.others (found c.args.packet s.held.items)) c.quit_all.ensures.fields
    ∙ visit_if (work_in c.in-Some.live c.args.packet)
    (at_up (event.Visit c.args.server c.args.packet c.args.worker) c.args.server c.args.slot.now c.in-Some.live
    (is_visit (work_in c.in-Some.live c.args.packet)) true c.in-Some.is
    (λ setting state run legal few up. ap is_visit
    ((c.what_work_says.ensures.visit setting state c.args.server c.args.packet c.args.worker c.in-Some.live run up.at).1
    legal.0)
    ∙ visit_is)
    c.requires)

pub visit_whole-requires-clause-rise : goal.visit_whole-requires-clause-rise
visit_whole-requires-clause-rise c =
    ap (λ (v : List ℕ). may_rise v) c.quit_all.ensures.vector
    ∙ at_up (event.Visit c.args.server c.args.packet c.args.worker) c.args.server c.args.slot.now c.in-Some.live
    (may_rise c.in-Some.live.head.vector) true c.in-Some.is
    (λ setting state run legal few up. c.what_a_commit_wants.ensures setting state c.args.server c.in-Some.live run
    up.at few)
    c.requires

-- what is down isn't up
pub unreachable-requires : goal.unreachable-requires
unreachable-requires c =
    let both : true ≡ false = ∥∥₁_elim c.requires (Bool-set _ _) (λ given.
    sym (c.where_events_are.ensures.visit given.setting given.state c.args.server c.args.packet c.args.worker given.run
    given.legal).1
    ∙ subst (IsSlot given.setting given.state c.args.server) c.in-None.is given.stands) in
    absurd cc

pub returns-clause-ok : goal.returns-clause-ok
returns-clause-ok c setting state visits run legal is visits_are =
    let done = c.in_ok-answers-in-Some.ensures.ok in
    let old = c.in-Some.live in
    let new = c.visit_whole.new.server in
    let server = c.args.server in
    let packet = c.args.packet in
    let worker = c.args.worker in
    let up : IsUp setting state server old = subst (IsSlot setting state server) c.in-Some.is is in
    let at = done.stands setting state server (c.quit_all.ensures.stands setting state server up.at) in
    let here : Event = event.Visit server packet worker in
    let named : event.Visit server done.running.packet worker ≡ here =
    ap (λ (n : ℕ). event.Visit server n worker) done.packet_is in
    let legal_named = subst (IsLegal setting state) (sym named) legal in
    let rest = done.visited.rest in
    let number : new.id ≡ server = ap (λ (s : ServerState). s.id) rest ∙ at.number_is in
    let parts : new.partitions ≡ setting.partitions = ap (λ (s : ServerState). s.partitions) rest ∙ at.partitions in
    let answers : List Answer = c.in_ok-answers-in-Some.answers.items in
    let answers_are : done.running.answers ≡ answers = done.answers_are in
    let visit_is : IsMadeBy setting.partitions server done.running.packet done.running.answers new.head.vector
    c.made.result =
    record {
      server_is = c.made.ensures.server_is ∙ number;
      packet_is = c.made.ensures.packet_is ∙ sym done.packet_is;
      needed = c.made.ensures.needed ∙ (ap (λ (v : List ℕ). map (mark_of new.partitions v) answers) c.vector.ensures
          ∙ (ap (λ (n : ℕ). map (mark_of n new.head.vector) answers) parts
          ∙ ap (map (mark_of setting.partitions new.head.vector)) (sym answers_are)));
    } in
    ∥∥₁_map₂
    (c.what_a_commit_does.ensures setting state server worker done.running done.end done.before new run legal_named at
    done.runs
    done.asked done.visited)
    (c.a_made_visit_is_added.ensures setting state server worker done.running done.end done.before new visits
    c.made.result run
    legal_named at done.runs done.asked done.visited visit_is visits_are)
    (λ stands added. (
      record {
        up = up.up;
        at = subst (λ (e : Event). IsServerAt setting (next setting state e) server new) named stands;
        ready = idle_ready new done.idle;
      },
      subst (λ (e : Event). AreMade setting (next setting state e) (visits ++ c.made.result ∷ [])) named added,
    ))

pub returns-clause-buffer : goal.returns-clause-buffer
returns-clause-buffer c =
    c.in_ok-answers-in-Some.ensures.ok.withheld ∙ (c.quit_all.ensures.withheld ∙ ap buffer_of (sym c.in-Some.is))

pub returns-in_err-answers-in-Some-clause-err : goal.returns-in_err-answers-in-Some-clause-err
returns-in_err-answers-in-Some-clause-err c = on_any_err c.from_residual.result _ (λ setting state is.
    let up : IsUp setting state c.args.server c.in-Some.live =
    subst (IsSlot setting state c.args.server) c.in-Some.is is in
    record {
      up = up.up;
      at = c.in_err-answers-in-Some.ensures.stands setting state c.args.server
          (c.quit_all.ensures.stands setting state c.args.server up.at);
      ready = idle_ready c.visit_whole.new.server c.in_err-answers-in-Some.ensures.idle;
    })

pub returns-clause-idle : goal.returns-clause-idle
returns-clause-idle c = c.in_ok-answers-in-Some.ensures.ok.idle

pub returns-in_err-answers-in-Some-clause-idle : goal.returns-in_err-answers-in-Some-clause-idle
returns-in_err-answers-in-Some-clause-idle c = c.in_err-answers-in-Some.ensures.idle
