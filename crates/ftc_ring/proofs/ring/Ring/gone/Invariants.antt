-- the search from here on finds what the whole search finds
use Rattle.std.proofs.Common.{◌≡◌, ◌-◌}
use Rattle.std.specs.Option.{is_none}
use Rattle.std.specs.List.{find, range_with_len}
use Rattle.ftc_ring.specs.Ring.{IsRing}
use Rattle.ftc_ring.specs.Live.{is_live, first_live_of, gone_of}
use Rattle.ftc_ring.proofs.ring.Ring.gone.Given as goal

abbrev pub invariant-loop-number : goal.invariant-loop-number
invariant-loop-number l = record {
  shape : IsRing l.self;
  same : find (λ group. is_none (first_live_of l.self (is_live l.down) group))
      (range_with_len l.number (l.self.servers - l.number)) ≡ gone_of l.self (is_live l.down);
}
