-- Messages and withheld packets that go away, as they are kept.
use Rattle.std.proofs.Common.{◌≡◌, ℕ, ◌+◌, ◌==◌, ◌&&◌, ◌||◌, if◌then◌else◌, Bool, true, false, List, [], ◌∷◌, drop}
use Rattle.std.proofs.Common.{zero, suc, Option, Some, None, is_some, refl, sym, ◌∙◌, ap, subst, add-one}
use Rattle.std.specs.Option.{option_map_or}
use Rattle.ftc_ring.specs.Ring.{next_of}
use Rattle.ftc_script.specs.declared.line.ScriptLine.{ScriptLine}
use Rattle.ftc_serial.specs.Serial.{Entry}
use Rattle.ftc_protocol.specs.declared.fate.Fate.{Fate}
use Rattle.ftc_protocol.specs.declared.fate.Fate.TheVariants.{Inside, Lost}
use Rattle.ftc_machine.specs.declared.state.message.Message.{Message as MessageOfMachine}
use Rattle.ftc_machine.specs.declared.state.message.Place.{Place}
use Rattle.ftc_machine.specs.declared.state.message.Place.TheVariants as place
use Rattle.ftc_machine.specs.declared.state.message.Withheld.{Withheld as WithheldOfMachine}
use Rattle.ftc_machine.specs.Represents.{IsMessage, IsMessageSlot, IsPlace, IsWithheldSlot}
use Rattle.ftc_machine.specs.LostPackets.{drop_kept, loses_kept, fate_lost, is_kept_at}
use Rattle.ftc_protocol.specs.Next.{drop_if, loses_packet, is_at, lines_behind}
use Rattle.ftc_machine.specs.Frontier.{Numbers}
use Rattle.ftc_protocol.specs.Setting.{Setting, servers}
use Rattle.ftc_protocol.specs.State.{Where, Held, Queued, Message, Withheld}
use Rattle.ftc_protocol.specs.Visits.{Visits}

-- the lines behind the next one that is left
pub lines_left_behind : (done : ℕ) (lines : List ScriptLine) → lines_behind (drop done lines) ≡ drop (done + 1) lines
lines_left_behind done lines = behind done lines ∙ ap (λ n. drop n lines) (sym (add-one done))
  where
    behind : (done : ℕ) (lines : List ScriptLine) → lines_behind (drop done lines) ≡ drop (suc done) lines
    behind zero [] = refl
    behind zero (line ∷ lines) = refl
    behind (suc done) [] = refl
    behind (suc done) (line ∷ lines) = behind done lines

-- ---- messages

module _ (partitions : ℕ) (trace : List Entry) (numbers : Numbers) where
  pub at_same : (c : Setting) (server : ℕ) (known : Visits) (at : Where) (kept : Place) →
      IsPlace partitions trace numbers known at kept → is_kept_at (servers c) server kept ≡ is_at c server at
  at_same c server known (Held holder visited by_ring) (place.Held other said by) is = ap (λ n. n == server) is.0
  at_same c server known (Held holder visited by_ring) (place.Queued other reach) is = absurd is
  at_same c server known (Queued link) (place.Held other said by) is = absurd is
  at_same c server known (Queued link) (place.Queued other reach) is = ap (λ n. next_of (servers c) n == server) is.0

  module _ (test : Message → Bool) (kept_test : MessageOfMachine → Bool) where
    pub drops : (o : Option Message) (slot : Option MessageOfMachine)
        → ((message : Message) (kept : MessageOfMachine) → o ≡ Some message → slot ≡ Some kept →
        IsMessage partitions trace numbers message kept → kept_test kept ≡ test message)
        → IsMessageSlot partitions trace numbers o slot →
        IsMessageSlot partitions trace numbers (drop_if test o) (drop_kept kept_test slot)
    drops None None same is = is
    drops None (Some kept) same is = absurd is
    drops (Some message) None same is = absurd is
    drops (Some message) (Some kept) same is =
        subst (λ b. IsMessageSlot partitions trace numbers (if b then None
        else Some message) (drop_kept kept_test (Some kept))) (same message kept refl refl is)
        (stays (kept_test kept))
      where
        stays : (b : Bool) → IsMessageSlot partitions trace numbers (if b then None else Some message) (if b then None
            else Some kept)
        stays true = tt
        stays false = is

    pub loses_same : (o : Option Message) (slot : Option MessageOfMachine)
        → ((message : Message) (kept : MessageOfMachine) → o ≡ Some message → slot ≡ Some kept →
        IsMessage partitions trace numbers message kept → kept_test kept ≡ test message)
        → IsMessageSlot partitions trace numbers o slot → loses_kept kept_test slot ≡ loses_packet test o
    loses_same None None same is = refl
    loses_same None (Some kept) same is = absurd is
    loses_same (Some message) None same is = absurd is
    loses_same (Some message) (Some kept) same is =
        ap (λ b. b && is_some kept.packet) (same message kept refl refl is) ∙ ap
        (λ (packet : Option (List ℕ)). test message && is_some packet) is.packet

-- ---- withheld packets

pub withheld_same : (packet : ℕ) (o : Option Withheld) (slot : Option WithheldOfMachine) →
    IsWithheldSlot packet o slot → is_some slot ≡ is_some o
withheld_same packet None None is = refl
withheld_same packet None (Some kept) is = absurd is
withheld_same packet (Some withheld) None is = absurd is
withheld_same packet (Some withheld) (Some kept) is = refl

pub withheld_emptied : (b : Bool) (packet : ℕ) (o : Option Withheld) (slot : Option WithheldOfMachine) →
    IsWithheldSlot packet o slot → IsWithheldSlot packet (if b then None else o) (if b then None else slot)
withheld_emptied true packet o slot is = tt
withheld_emptied false packet o slot is = is

-- ---- fates

-- a packet is lost with a message or out of the buffer
pub lost_either : (one other : Bool) (event : ℕ) (slot : Option Fate) (fate : Fate) →
    option_map_or (λ (found : Fate). found) slot Inside ≡ fate
    → option_map_or (λ (found : Fate). found) (fate_lost other event (fate_lost one event slot)) Inside
    ≡ (if one || other then Lost event else fate)
lost_either true true event slot fate is = refl
lost_either true false event slot fate is = refl
lost_either false true event slot fate is = refl
lost_either false false event slot fate is = is
