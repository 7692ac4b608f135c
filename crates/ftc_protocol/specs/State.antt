-- The state of the protocol: which visits each server has and knows of, and the messages between the servers.
use Rattle.std.specs.Prelude.{ℕ, Bool, false, nat_lt, List, [], Option, None}
use Rattle.ftc_serial.specs.Serial.{Entry}
use Rattle.ftc_protocol.specs.declared.fate.Fate.{Fate}
use Rattle.ftc_protocol.specs.declared.fate.Fate.TheVariants as became
use Rattle.ftc_script.specs.declared.line.ScriptLine.{ScriptLine}
use Rattle.ftc_protocol.specs.Setting.{Setting, servers}
use Rattle.ftc_protocol.specs.Visits.{Visits, no_visits}

-- where a message is: held by a server, where it was visited or not and came by the ring link or not, or queued on a
-- link
pub data Where : Type 0 where
  Held : (server : ℕ) → (visited : Bool) → (by_ring : Bool) → Where
  Queued : (link : ℕ) → Where

-- A message: where it is, and the number of the event by which it came there; its packet; the visits whose logs it
-- carries; the middleboxes at which its packet has needs; and the visits that its sender knew to be at their tails.
pub record Message : Type 0 where
  pub place : Where
  pub since : ℕ
  pub packet : Option (List ℕ)
  pub logs : Visits
  pub needs : ℕ → Bool
  pub known : Visits

-- A packet in the buffer: the number of the event by which it came there, its bytes, and the middleboxes at which it
-- has needs.
pub record Withheld : Type 0 where
  pub since : ℕ
  pub bytes : List ℕ
  pub needs : ℕ → Bool

-- A message and a withheld packet go by their origin: the number of their packet, or one behind all packets.
pub record ChainState : Type 0 where
  -- the visits and releases that count, the last first
  pub trace : List Entry
  -- which servers are up, the changing visits that each has, and those that it knows to be at their tails
  pub up : ℕ → Bool
  pub lists : ℕ → Visits
  pub known : ℕ → Visits
  -- the messages that are held or queued, the visits of the forwarder, and the packets of the buffer
  pub message : ℕ → Option Message
  pub forwarder : Visits
  pub withheld : ℕ → Option Withheld
  -- which links have a gap
  pub gap : ℕ → Bool
  -- how many packets have entered, the `at` lines that are still to be done, how many propagates there were, and events
  pub entered : ℕ
  pub lines : List ScriptLine
  pub propagates : ℕ
  pub events : ℕ
  -- what became of each packet
  pub fate : ℕ → Fate

-- all servers are up, and everything is empty
abbrev pub opening : Setting → ChainState
opening setting = record {
  trace = [];
  up = λ server. nat_lt server (servers setting);
  lists = λ server. no_visits;
  known = λ server. no_visits;
  message = λ origin. None;
  forwarder = no_visits;
  withheld = λ packet. None;
  gap = λ link. false;
  entered = 0;
  lines = setting.lines;
  propagates = 0;
  events = 0;
  fate = λ packet. became.Inside;
}
