-- When the machine takes an event to be legal: one test of what it keeps, by the event.
use Rattle.std.specs.Prelude.{ℕ, ◌&&◌, nat_lt, Bool, true}
use Rattle.ftc_journal.specs.declared.event.Event.{Event}
use Rattle.ftc_journal.specs.declared.event.Event.TheVariants as event
use Rattle.ftc_script.specs.Script.{ScriptShape}
use Rattle.ftc_machine.specs.declared.state.MachineState.{MachineState}
use Rattle.ftc_machine.specs.DueTests.{may_release}
use Rattle.ftc_machine.specs.LegalityTests.{may_apply, may_carry, may_crash, may_enter, may_lose, may_pass}
use Rattle.ftc_machine.specs.LegalityTests.{may_propagate, may_pull, may_recover, may_take, may_visit}

-- the event's server, or its link, is one of so many
abbrev pub is_placed : ℕ → Event → Bool
is_placed servers (event.Take link origin) = nat_lt link servers
is_placed servers (event.Apply server origin group packet) = nat_lt server servers
is_placed servers (event.Visit server packet worker) = nat_lt server servers
is_placed servers (event.Pass server origin) = nat_lt server servers
is_placed servers (event.Lose server origin) = nat_lt server servers
is_placed servers (event.Crash server) = nat_lt server servers
is_placed servers (event.Recover server undone) = nat_lt server servers
is_placed servers other = true

-- the test for the event's kind
abbrev pub is_in_order : MachineState → ScriptShape → ℕ → Event → Bool
is_in_order machine script count (event.Enter packet) = may_enter machine script count packet
is_in_order machine script count (event.Take link origin) = may_take machine link origin
is_in_order machine script count (event.Apply server origin group packet) = may_apply machine server origin group packet
is_in_order machine script count (event.Visit server packet worker) = may_visit machine server packet
is_in_order machine script count (event.Pass server origin) = may_pass machine script server origin
is_in_order machine script count (event.Lose server origin) = may_lose machine script server origin
is_in_order machine script count (event.Carry origin) = may_carry machine origin
is_in_order machine script count (event.Crash server) = may_crash machine script server
is_in_order machine script count (event.Recover server undone) = may_recover machine script server
is_in_order machine script count (event.Pull link) = may_pull machine link
is_in_order machine script count (event.Propagate origin) = may_propagate machine count origin
is_in_order machine script count (event.Release packet) = may_release machine packet

-- The event may happen where no release is due. What a recovery lists is another question.
abbrev pub may_happen : MachineState → ScriptShape → ℕ → Event → Bool
may_happen machine script count event = is_placed machine.ring.servers event && is_in_order machine script count event
