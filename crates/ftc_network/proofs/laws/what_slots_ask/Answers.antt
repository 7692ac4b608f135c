use Rattle.std.proofs.Common.{◌∙◌, ℕ, List, Some, sym, ap}
use Rattle.ftc_mbox.specs.Ask.{ask}
use Rattle.ftc_mbox.specs.declared.rule.Rule.{Rule}
use Rattle.ftc_protocol.specs.Setting.{rule_at}
use Rattle.ftc_network.specs.Slots.{packet_of_held}
use Rattle.ftc_network.proofs.HeldRuns.{run_has_bytes, asks_of_bytes, bytes_in_state}
use Rattle.ftc_network.proofs.laws.what_slots_ask.Goals as goal

pub returns-clause-bytes : goal.returns-clause-bytes
returns-clause-bytes c setting state number worker server running run is none_due runs =
    let has = run_has_bytes server worker running runs in
    ap packet_of_held has.there ∙ (has.with_bytes
    ∙ ap (λ (bytes : List ℕ). Some bytes)
    (sym (bytes_in_state setting state number running.packet server.held.items has is.at.stands.held)))

pub returns-clause-asks : goal.returns-clause-asks
returns-clause-asks c setting state number worker server running run is none_due runs =
    let has = run_has_bytes server worker running runs in
    asks_of_bytes server worker running runs has
    ∙ (ap (λ (rule : Rule). Some (ask rule has.bytes running.answers)) is.at.rule
    ∙ ap (λ (bytes : List ℕ). Some (ask (rule_at setting number) bytes running.answers))
    (sym (bytes_in_state setting state number running.packet server.held.items has is.at.stands.held)))
