-- Runs in which a server crashes behind a visit: the server that takes its place undoes that visit, or gets it from
-- another.
use Rattle.std.specs.Prelude.{ℕ, false, List, [], ◌∷◌}
use Rattle.ftc_mbox.specs.declared.rule.Rule.TheVariants.{Monitor, Pass}
use Rattle.ftc_script.specs.declared.line.ScriptLine.TheVariants as line
use Rattle.ftc_journal.specs.declared.event.Event.{Event}
use Rattle.ftc_journal.specs.declared.event.Event.TheVariants as event
use Rattle.ftc_protocol.specs.Setting.{Setting}

-- a datagram from 10.0.0.1, port 1, to 10.0.0.2, port 2, in an Ethernet frame
abbrev pub datagram : List ℕ
datagram =
    0 ∷ 0 ∷ 0 ∷ 0 ∷ 0 ∷ 0 ∷ 0 ∷ 0 ∷ 0 ∷ 0 ∷ 0 ∷ 0 ∷ 8 ∷ 0
    ∷ 69 ∷ 0 ∷ 0 ∷ 28 ∷ 0 ∷ 0 ∷ 0 ∷ 0 ∷ 64 ∷ 17 ∷ 0 ∷ 0 ∷ 10 ∷ 0 ∷ 0 ∷ 1 ∷ 10 ∷ 0 ∷ 0 ∷ 2
    ∷ 0 ∷ 1 ∷ 0 ∷ 2 ∷ 0 ∷ 8 ∷ 0 ∷ 0 ∷ []

-- two monitors, one of which may be down, and the first of which crashes behind the only packet
abbrev pub two_monitors : Setting
two_monitors = record {
  rules = Monitor 1 ∷ Monitor 1 ∷ [];
  failures = 1;
  partitions = 1;
  packets = datagram ∷ [];
  loses = λ link origin. false;
  lines = line.Crash 1 0 ∷ line.Recover 1 0 ∷ [];
}

-- the packet enters and is counted; server 0 crashes; a new server 0 undoes the count, which no other server has;
-- both links are made whole again
abbrev pub undoing : List Event
undoing =
    event.Enter 0 ∷ event.Visit 0 0 63 ∷ event.Crash 0 ∷ event.Recover 0 (record { server = 0; packet = 0 } ∷ [])
    ∷ event.Pull 0 ∷ event.Pull 1 ∷ []

-- a monitor, and a middlebox that passes everything on
abbrev pub monitor_and_pass : Setting
monitor_and_pass = record {
  rules = Monitor 1 ∷ Pass ∷ [];
  failures = 1;
  partitions = 1;
  packets = datagram ∷ [];
  loses = λ link origin. false;
  lines = line.Crash 1 0 ∷ line.Recover 1 0 ∷ [];
}

-- the packet is counted, and server 1 applies the count; server 0 crashes, and the new one gets the count from server
-- 1, so that nothing is undone; the packet goes on and is released, and nothing is left to do
abbrev pub saving : List Event
saving =
    event.Enter 0 ∷ event.Visit 0 0 63 ∷ event.Pass 0 0 ∷ event.Take 0 0 ∷ event.Apply 1 0 0 0
    ∷ event.Crash 0 ∷ event.Recover 0 [] ∷ event.Pull 0 ∷ event.Pull 1
    ∷ event.Visit 1 0 63 ∷ event.Pass 1 0 ∷ event.Release 0 ∷ event.Take 1 0 ∷ event.Carry 0 ∷ []
