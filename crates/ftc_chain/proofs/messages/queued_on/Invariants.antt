use Rattle.std.proofs.Common.{◌≡◌, ◌+◌, drop}
use Rattle.ftc_chain.specs.Messages.{all_queued}
use Rattle.ftc_chain.proofs.messages.queued_on.Given as goal

-- those that were counted and those of the other links are all
abbrev pub invariant-loop-link : goal.invariant-loop-link
invariant-loop-link l = l.count + all_queued (drop l.link-index l.links) ≡ all_queued l.links
