-- A line for which there is room says something for which there is room.
use Rattle.std.proofs.Common.{◌≡◌, ◌<◌, ℕ, Bool, true, false, nat_lt, List, length, Option, Some, None, Result, Ok, Err}
use Rattle.std.proofs.Common.{refl, subst, rules, IfOk}
use Rattle.std.specs.Prelude.{IfSome, ◌==◌}
use Rattle.ftc_base.specs.declared.limits.TheConstants.{MOST_SERVERS, MOST_FIREWALL_LINES}
use Rattle.ftc_base.specs.declared.refusal.Refuse.{Refuse}
use Rattle.ftc_firewall.specs.declared.rule.FirewallRule.{FirewallRule}
use Rattle.ftc_mbox.specs.declared.rule.Rule.TheVariants as rule
use Rattle.ftc_conf.specs.declared.fault.ChainCause.{ChainCause}
use Rattle.ftc_conf.specs.declared.fault.ChainCause.TheVariants.{TooManyServers, TooManyItems, SpareOrder}
use Rattle.ftc_conf.specs.declared.statement.Form.{Form}
use Rattle.ftc_conf.specs.declared.statement.Form.TheVariants as form
use Rattle.ftc_conf.specs.declared.statement.Statement.{Statement}
use Rattle.ftc_conf.specs.declared.statement.Statement.TheVariants as said
use Rattle.ftc_conf.specs.declared.draft.Draft.{Draft}
use Rattle.ftc_base.specs.Reading.{◌>>=◌, ◌>>◌, unless}
use Rattle.ftc_conf.specs.Forms.{no_words, monitor_of, nat_of, fire_line_of, balance_of}
use Rattle.ftc_conf.specs.Draft.{servers, HasRoom}
use Rattle.ftc_base.specs.Refused.{IsReading}
use Rattle.ftc_conf.specs.Grammar.{server_room, fire_line_room, middlebox_room, room_for, said_in}

-- what holds of every value that may be made holds of the one that was
pub made_of : {A B : Type 0} (r : Result A ChainCause) (f : A → B) (P : B → Type 0) (b : B) → ((a : A) → P (f a)) →
    (r >>= λ a. Ok (f a)) ≡ Ok b → P b
made_of (Ok a) f P b all e = let same : f a ≡ b = cc in subst P same (all a)
made_of (Err cause) f P b all e = absurd cc

made : {A B : Type 0} (r : Result A ChainCause) (value : B) (P : B → Type 0) (b : B) → P value →
    (r >> Ok value) ≡ Ok b → P b
made (Ok a) value P b holds e = let same : value ≡ b = cc in subst P same holds
made (Err cause) value P b holds e = absurd cc

passed : (t : Bool) (cause : ChainCause) → unless t cause ≡ Ok tt → t ≡ true
passed true cause e = refl
passed false cause e = absurd cc

second : {A B : Type 0} (r : Result A ChainCause) (s : Result B ChainCause) (b : B) → (r >> s) ≡ Ok b → s ≡ Ok b
second (Ok a) s b e = e
second (Err cause) s b e = absurd cc

has_server_room : (draft : Draft) → server_room draft ≡ Ok tt → length (servers draft) < MOST_SERVERS
has_server_room draft e = let t = passed (nat_lt (length (servers draft)) MOST_SERVERS) TooManyServers e in search rules

has_middlebox_room : (draft : Draft) → middlebox_room draft ≡ Ok tt → length (servers draft) < MOST_SERVERS
has_middlebox_room draft e =
    has_server_room draft (second (unless (draft.spares == 0) SpareOrder) (server_room draft) tt e)

has_fire_line_room : (firewall : Option FirewallRule) → fire_line_room firewall ≡ Ok tt →
    IfSome firewall (λ rule. length rule.lines < MOST_FIREWALL_LINES)
has_fire_line_room None e = tt
has_fire_line_room (Some rule) e = let t = passed (nat_lt (length rule.lines) MOST_FIREWALL_LINES) TooManyItems e in
    search rules

pub said_room : (draft : Draft) (found : Form) (words : List (List ℕ)) (statement : Statement) →
    room_for draft found ≡ Ok tt → said_in found words ≡ Ok statement → HasRoom draft statement
said_room draft form.Pass words statement room e =
    made (no_words words) (said.Middlebox rule.Pass) (HasRoom draft) statement (has_middlebox_room draft room) e
said_room draft form.Monitor words statement room e =
    made_of (monitor_of words) (λ groups. said.Middlebox (rule.Monitor groups)) (HasRoom draft) statement
    (λ groups. has_middlebox_room draft room) e
said_room draft form.Nat words statement room e =
    made_of (nat_of words) (λ nat. said.Middlebox (rule.Nat nat)) (HasRoom draft) statement
    (λ nat. has_middlebox_room draft room) e
said_room draft form.Firewall words statement room e =
    made (no_words words) said.Firewall (HasRoom draft) statement (has_middlebox_room draft room) e
said_room draft (form.FireLine allow) words statement room e =
    made_of (fire_line_of allow words) said.FireLine (HasRoom draft) statement
    (λ line. has_fire_line_room draft.firewall room) e
said_room draft form.Balance words statement room e =
    made_of (balance_of words) (λ balance. said.Middlebox (rule.Balance balance)) (HasRoom draft) statement
    (λ balance. has_middlebox_room draft room) e
said_room draft form.Spare words statement room e =
    made (no_words words) said.Spare (HasRoom draft) statement (has_server_room draft room) e

pub read_room : (draft : Draft) (found : Form) (words : List (List ℕ)) (result : Result Statement (Refuse ChainCause)) →
    room_for draft found ≡ Ok tt → IsReading result (said_in found words) → IfOk result (HasRoom draft)
read_room draft found words (Ok statement) room e = said_room draft found words statement room e
read_room draft found words (Err refused) room e = tt
