-- What the definitions say of one another.
use Rattle.std.specs.Prelude.{◌≡◌, ℕ, ◌+◌, ◌%◌, ◌<◌, ◌≤◌, List, MatchOption}
use Rattle.ftc_packet.specs.Flow.{IsFlow, flow_in, flow_found}
use Rattle.ftc_packet.specs.Sum.{ones_complement, updated_checksum, checksum_of}

-- A flow is found exactly in a flow packet, and it is the one that its fields name.
abbrev pub FlowsAreFound : Type 0
FlowsAreFound = (bytes : List ℕ) →
    MatchOption (flow_found bytes) (¬ IsFlow bytes) (λ flow. IsFlow bytes × (flow ≡ flow_in bytes))

-- Words of which one changes have a right checksum: `rest` is the plain sum of those that stay, of which one isn't 0.
pub record IsUpdate (rest checksum before : ℕ) : Type 0 where
  pub rest_above_zero : 0 < rest
  pub checksum_fits : checksum ≤ 0xffff
  pub before_fits : before ≤ 0xffff
  pub right : ones_complement (rest + checksum + before) ≡ 0xffff

-- The updated checksum is right for the words as they have become.
abbrev pub UpdatesStayRight : Type 0
UpdatesStayRight = (rest checksum before after : ℕ) → IsUpdate rest checksum before →
    ones_complement (rest + updated_checksum checksum before after + after) ≡ 0xffff

-- The updated checksum is the one that a sum of all words gives. 0 and 0xffff are the same number in one's complement.
abbrev pub UpdatesRecompute : Type 0
UpdatesRecompute = (rest checksum before after : ℕ) → IsUpdate rest checksum before →
    updated_checksum checksum before after % 0xffff ≡ checksum_of (rest + after) % 0xffff
