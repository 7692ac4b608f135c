-- What a server sends on.
use Rattle.std.proofs.Common.{◌≡◌, ◌∙◌, ◌+◌, ◌==◌, ◌&&◌, ◌||◌, ℕ, Bool, true, false, not, List, [], Some, None, refl}
use Rattle.std.proofs.Common.{sym, ap, cond, arith}
use Rattle.std.proofs.lemmas.Bool.Decides.{nat_tests}
use Rattle.std.specs.Prelude.{nat_lt}
use Rattle.std.specs.Option.{option_map}
use Rattle.ftc_message.specs.declared.message.Message.{Message as SentMessage}
use Rattle.ftc_message.specs.Logged.{Logged}
use Rattle.ftc_message.specs.Ordered.{with_items, is_earlier}
use Rattle.ftc_ring.specs.Ring.{RingShape}
use Rattle.ftc_protocol.specs.Setting.{Setting, servers, shape}
use Rattle.ftc_protocol.specs.State.{ChainState}
use Rattle.ftc_protocol.specs.Visits.{no_visits}
use Rattle.ftc_protocol.specs.Legal.{is_sent}
use Rattle.ftc_ties.specs.Messages.{AreLogsOf, onward}
use Rattle.ftc_server.specs.declared.held.HeldMessage.{HeldMessage}
use Rattle.ftc_server.specs.declared.server.Server.{Server}
use Rattle.ftc_server.specs.Holding.{found}
use Rattle.ftc_server.specs.Looks.{sent, sent_in, attached_in, onward_in}
use Rattle.ftc_server.specs.Standing.{is_last, going_on}
use Rattle.ftc_standing.specs.Stand.{AreForwarded, IsSentOn}
use Rattle.ftc_refinement.specs.Contents.{IsServerAt}
use Rattle.ftc_refinement.proofs.Ring.{no_logs}

-- whether nothing is sent
abbrev pub is_silent : RingShape → ℕ → Bool
is_silent ring server = is_last ring server && (ring.failures == 0)

-- what is sent is what goes on of the held message
pub is_what_goes_on : (silent : Bool) (old : Server) (held : HeldMessage) (message : SentMessage) →
    cond silent None (Some (sent old held)) ≡ Some message → sent old held ≡ message
is_what_goes_on true old held message is = absurd cc
is_what_goes_on false old held message is = cc

pub sent_is : (old : Server) (origin : ℕ) (held : HeldMessage) (message : SentMessage) →
    found origin old.held.items ≡ Some held → sent_in old origin ≡ Some message → sent old held ≡ message
sent_is old origin held message there is =
    is_what_goes_on (is_silent old.ring old.id) old held message
    (ap (λ o. cond (is_silent old.ring old.id) None (option_map (sent old) o)) (sym there) ∙ is)

is_silence : (silent : Bool) (old : Server) (held : HeldMessage) → cond silent None (Some (sent old held)) ≡ None →
    silent ≡ true
is_silence true old held is = refl
is_silence false old held is = absurd cc

none_sent : (last : Bool) (failures : ℕ) → last && (failures == 0) ≡ true → not last || nat_lt 0 failures ≡ false
none_sent last failures is = grind (arith, nat_tests, is)

pub nothing_sent : (setting : Setting) (state : ChainState) (server origin : ℕ) (old : Server) (held : HeldMessage) →
    IsServerAt setting state server old → found origin old.held.items ≡ Some held → sent_in old origin ≡ None →
    is_sent setting server ≡ false
nothing_sent setting state server origin old held is there none =
    none_sent (server + 1 == servers setting) setting.failures
    (ap (is_silent (shape setting)) (sym is.number_is) ∙ (ap (λ r. is_silent r old.id) (sym is.ring)
    ∙ is_silence (is_silent old.ring old.id) old held
    (ap (λ o. cond (is_silent old.ring old.id) None (option_map (sent old) o)) (sym there) ∙ none)))

-- ---- the forwarder's logs go along at server 0, and elsewhere there are none

attached_where : (setting : Setting) (state : ChainState) (server : ℕ) (forwarder : List Logged) →
    AreForwarded setting state server forwarder → cond (server == 0) forwarder [] ≡ forwarder
attached_where setting state server forwarder are =
    elim (server == 0) as (λ b. AreLogsOf setting state (cond b state.forwarder no_visits) forwarder →
    cond b forwarder [] ≡ forwarder) [
      | true ↦ λ here. refl
      | false ↦ λ none. sym (no_logs setting state forwarder none)
    ] are

pub attached : (setting : Setting) (state : ChainState) (server : ℕ) (old : Server) →
    IsServerAt setting state server old →
    attached_in old ≡ old.forwarder
attached setting state server old is =
    ap (λ n. cond (n == 0) old.forwarder []) is.number_is
    ∙ attached_where setting state server old.forwarder is.stands.forwarded

-- what goes on stands for what is sent on
pub sent_on : (setting : Setting) (state : ChainState) (server : ℕ) (old : Server) (held : HeldMessage) →
    IsServerAt setting state server old →
    going_on (shape setting) server held.message.logs ≡ onward setting server held.message.logs →
    IsSentOn setting server old.forwarder old.known held.message (sent old held)
sent_on setting state server old held is going = record {
  origin_is = refl;
  packet_is = ap (λ b. cond b None held.message.packet) last;
  logs_are = ap (λ x. with_items is_earlier x (onward_in old held)) (attached setting state server old is)
      ∙ ap (λ x. with_items is_earlier old.forwarder x) (onwards ∙ going);
  needs_are = ap (λ b. cond b [] held.message.needs) last;
  commits_are = refl;
}
  where
    last : is_last old.ring old.id ≡ (server + 1 == servers setting)
    last = ap (λ r. is_last r old.id) is.ring ∙ ap (is_last (shape setting)) is.number_is

    onwards : going_on old.ring old.id held.message.logs ≡ going_on (shape setting) server held.message.logs
    onwards = ap (λ r. going_on r old.id held.message.logs) is.ring
        ∙ ap (λ n. going_on (shape setting) n held.message.logs) is.number_is
