-- the search from here on finds what the whole search finds
use Rattle.std.proofs.Common.{◌≡◌, ◌-◌}
use Rattle.std.specs.Prelude.{not}
use Rattle.std.specs.List.{find, range_with_len}
use Rattle.ftc_ring.specs.Live.{is_live}
use Rattle.ftc_script.specs.Grammar.{down_of}
use Rattle.ftc_script.proofs.draft.Draft.first_down.Given as goal

abbrev pub invariant-loop-number : goal.invariant-loop-number
invariant-loop-number l = find (λ server. not (is_live l.down server)) (range_with_len l.number (l.servers - l.number))
    ≡ down_of l.fn.servers (is_live l.down)
