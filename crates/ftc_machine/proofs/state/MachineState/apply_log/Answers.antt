use Rattle.std.proofs.Common.{rules, ◌≡◌, ◌<◌, ◌∙◌, ℕ, length, List, [], refl, sym, ap, arith}
use Rattle.std.specs.Prelude.{option_map}
use Rattle.std.proofs.lemmas.List.{get_or_read}
use Rattle.std.proofs.lemmas.Option.{none-some}
use Rattle.ftc_ring.specs.Ring.{RingShape}
use Rattle.ftc_vector.specs.Vector.{number_at}
use Rattle.ftc_vector.specs.Commits.{vector_of, group_raised}
use Rattle.ftc_machine.specs.Represents.{frontiers_of}
use Rattle.ftc_machine.specs.FootprintMarks.{marked_at}
use Rattle.ftc_protocol.specs.Setting.{servers}
use Rattle.ftc_machine.proofs.AfterApply.{applied_footprint, lists_join, stores_stay}
use Rattle.ftc_machine.proofs.NextParts.{goes_on}
use Rattle.ftc_machine.proofs.state.MachineState.apply_log.Goals as goal
use Rattle.ftc_machine.proofs.state.MachineState.apply_log.Goals.{in-Some, in_default}

pub returns : goal.returns
returns c setting s origin may is =
    let k = c.args.self.now in
    let log = c.args.log.now in
    let place : c.from-place.result ≡ c.args.server = c.from-place.ensures ∙ c.number.ensures.same in
    let within : c.args.server < k.ring.servers = c.requires in
    let long : length k.lists.items ≡ k.ring.servers = k.each_list in
    let servers_are : k.ring.servers ≡ servers setting = ap (λ (ring : RingShape). ring.servers) is.ring in
    let row : c.index.result.now ≡ frontiers_of k.lists.items c.from-place.result =
    get_or_read k.lists.items c.from-place.result c.index.result.now (omega arith) c.index.ensures [] in
    let again : c.index_mut.result.now ≡ frontiers_of k.lists.items c.from-place.result =
    get_or_read k.lists.items c.from-place.result c.index_mut.result.now
    (omega arith) c.index_mut.ensures.value [] in
    elim c.match-footprint.branch [
      | in_default w ↦ absurd (none-some
          (applied_footprint setting s c.args.server origin log.server log.packet may k is).0
          (w.in_default.ensures ∙ (applied_footprint setting s c.args.server origin log.server log.packet may k is).1))
      | in-Some w ↦
          goes_on is (search rules)
          (lists_join setting s c.args.server origin log.server log.packet may k is w.in-Some.footprint.now
          c.match-footprint.vector c.from-place.result c.raise.new.self _
          (sym c.footprint.ensures ∙ ap (option_map (λ f. f.now)) w.in-Some.is)
          (λ partition. ap (λ (vector : List ℕ). number_at vector partition) w.vector-is ∙ (w.mark.ensures partition
          ∙ ap (λ (vector : List ℕ). marked_at w.in-Some.footprint.now (number_at vector) partition)
          (c.of.ensures.same ∙ ap (λ (reach : List (List ℕ)). vector_of reach log.server) row)))
          (ap (λ (reach : List (List ℕ)). length reach) (sym row) ∙ c.of.ensures.size) place (omega arith)
          (c.raise.ensures ∙ ap (λ (reach : List (List ℕ)). group_raised reach log.server c.match-footprint.vector)
          again) refl)
          is.sets.known is.sets.messages
          (stores_stay setting s c.args.server origin log.server log.packet may k is)
          is.forwarder is.buffer is.gaps is.entered is.propagates is.fates
    ]
