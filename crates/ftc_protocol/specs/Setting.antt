-- What a run is given: the chain, the packets and the script.
use Rattle.std.specs.Prelude.{ℕ, ◌≡◌, ◌<◌, ◌≤◌, Bool, true, List, [], length, slice_index_or, nat_le, ◌==◌}
use Rattle.std.specs.Option.{is_some}
use Rattle.ftc_base.specs.declared.limits.TheConstants.{MOST_PARTITIONS}
use Rattle.ftc_mbox.specs.declared.rule.Rule.{Rule}
use Rattle.ftc_mbox.specs.declared.rule.Rule.TheVariants.{Pass}
use Rattle.ftc_mbox.specs.Chain.{Chain}
use Rattle.ftc_ring.specs.Ring.{RingShape, IsRing, apart}
use Rattle.ftc_ring.specs.Live.{IsLive}
use Rattle.ftc_script.specs.declared.line.ScriptLine.{ScriptLine}
use Rattle.ftc_script.specs.Script.{ScriptShape, loses_of}
use Rattle.ftc_script.specs.Steps.{all_live, live_after_all, AreSteps}

-- the rules of the middleboxes, one on each server; how many servers may be down at once; in how many partitions the
-- keys of a middlebox lie; the bytes of the packets; which messages a link loses, by the link and the message's
-- origin; and the servers that crash and are replaced
pub record Setting : Type 0 where
  pub rules : List Rule
  pub failures : ℕ
  pub partitions : ℕ
  pub packets : List (List ℕ)
  pub loses : ℕ → ℕ → Bool
  pub lines : List ScriptLine

-- the setting of a chain, the packets of a capture and a script
abbrev pub setting_of : Chain → List (List ℕ) → ScriptShape → Setting
setting_of chain packets script = record {
  rules = chain.rules;
  failures = chain.failures;
  partitions = chain.partitions;
  packets = packets;
  loses = λ link origin. is_some (loses_of script.loses link origin);
  lines = script.steps;
}

abbrev pub servers : Setting → ℕ
servers setting = length setting.rules

abbrev pub shape : Setting → RingShape
shape setting = record { servers = servers setting; failures = setting.failures }

abbrev pub count : Setting → ℕ
count setting = length setting.packets

-- the bytes with which a packet comes
abbrev pub packet_at : Setting → ℕ → List ℕ
packet_at setting packet = slice_index_or setting.packets packet []

-- the rule of a server's middlebox
abbrev pub rule_at : Setting → ℕ → Rule
rule_at setting server = slice_index_or setting.rules server Pass

-- a server is a member of a group
abbrev pub is_member : Setting → ℕ → ℕ → Bool
is_member setting group server = nat_le (apart (servers setting) group server) setting.failures

-- and the last of them
abbrev pub is_tail : Setting → ℕ → ℕ → Bool
is_tail setting group server = apart (servers setting) group server == setting.failures

-- What a run may be given: a ring of servers, partitions as a chain may have, lines each of which may be done where
-- those before it were, and which leave all servers up, and losses of packets' messages.
pub record IsSetting (setting : Setting) : Type 0 where
  pub ring : IsRing (shape setting)
  pub some_partition : 0 < setting.partitions
  pub few_partitions : setting.partitions ≤ MOST_PARTITIONS
  pub lines : AreSteps (shape setting) (count setting) 0 all_live setting.lines
  pub ends : (server : ℕ) → server < servers setting → IsLive (live_after_all all_live setting.lines) server
  pub loses : (link origin : ℕ) → setting.loses link origin ≡ true → origin < count setting
