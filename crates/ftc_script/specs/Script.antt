-- A script that is accepted for a ring and a count of packets.
use Rattle.std.specs.Prelude.{ℕ, ◌<◌, ◌≤◌, ◌==◌, ◌&&◌, Bool, List, length, Option}
use Rattle.std.specs.Option.{option_map}
use Rattle.std.specs.List.{AllByRecursion, find}
use Rattle.ftc_base.specs.declared.limits.TheConstants.{MOST_SCRIPT_BYTES}
use Rattle.ftc_ring.specs.Ring.{RingShape, IsRing}
use Rattle.ftc_ring.specs.Live.{IsLive}
use Rattle.ftc_script.specs.declared.line.ScriptLine.{ScriptLine}
use Rattle.ftc_script.specs.declared.line.LoseLine.{LoseLine}
use Rattle.ftc_script.specs.Steps.{all_live, live_after_all, AreSteps}

pub record ScriptShape : Type 0 where
  pub ring : RingShape
  pub packets : ℕ
  pub steps : List ScriptLine
  pub loses : List LoseLine

-- a lost message has a link of the ring and a packet of the capture
pub record IsLose (ring : RingShape) (packets : ℕ) (line : LoseLine) : Type 0 where
  pub link : line.link < ring.servers
  pub origin : line.origin < packets

-- each step may be made in its turn, and behind the last one all servers are live; there are no more steps than a text
-- has bytes
pub record IsScript (script : ScriptShape) : Type 0 where
  pub ring : IsRing script.ring
  pub few : length script.steps ≤ MOST_SCRIPT_BYTES
  pub steps : AreSteps script.ring script.packets 0 all_live script.steps
  pub all_live : (server : ℕ) → server < script.ring.servers → IsLive (live_after_all all_live script.steps) server
  pub loses : AllByRecursion (IsLose script.ring script.packets) script.loses

-- the first lose line of a link and an origin
abbrev pub is_of : ℕ → ℕ → LoseLine → Bool
is_of link origin line = line.link == link && line.origin == origin

abbrev pub loses_of : List LoseLine → ℕ → ℕ → Option ℕ
loses_of loses link origin = option_map (λ line. line.line) (find (is_of link origin) loses)
