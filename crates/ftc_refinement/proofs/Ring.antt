-- What a server says of the ring, and what the protocol says of it.
use Rattle.std.proofs.Common.{◌≡◌, ◌∙◌, ◌<◌, ◌==◌, ◌&&◌, ◌||◌, ◌∷◌, ℕ, Bool, true, false, not, List, [], refl, sym, ap}
use Rattle.std.proofs.Common.{cond}
use Rattle.std.specs.List.{AllByRecursion}
use Rattle.std.proofs.lemmas.Bool.{eq-eqb}
use Rattle.ftc_base.proofs.EachOf.{all-weaker}
use Rattle.ftc_message.specs.Logged.{Logged}
use Rattle.ftc_ring.specs.Ring.{RingShape, IsRing, apart}
use Rattle.ftc_vector.specs.Commits.{group_raised}
use Rattle.ftc_protocol.specs.Setting.{Setting, servers, shape, is_tail}
use Rattle.ftc_protocol.specs.State.{ChainState}
use Rattle.ftc_protocol.specs.Visits.{Visits, In, no_visits}
use Rattle.ftc_ties.specs.Messages.{AreLogsOf, names_log, onward}
use Rattle.ftc_server.specs.Standing.{group_ending_at, going_on, with_own}

abbrev pub EndsAsSaid : Type 0
EndsAsSaid = (ring : RingShape) (group server : ℕ) → IsRing ring → group < ring.servers → server < ring.servers →
    (group == group_ending_at ring server) ≡ (apart ring.servers group server == ring.failures)

-- what a server knows where it has a vector of a group, by whether it is the group's tail
pub knows_own : EndsAsSaid → (setting : Setting) (server group : ℕ) (vector : List ℕ) (known : List (List ℕ)) →
    IsRing (shape setting) → group < servers setting → server < servers setting →
    with_own (shape setting) server group vector known
    ≡ cond (is_tail setting group server) (group_raised known group vector) known
knows_own ends setting server group vector known ring below inside =
    ap (λ b. cond b (group_raised known group vector) known) (ends (shape setting) group server ring below inside)

-- ---- logs that go on

-- one list of logs without those of the group whose tail the server is
pub goes_on : EndsAsSaid → (setting : Setting) (server : ℕ) (logs : List Logged) → IsRing (shape setting) →
    server < servers setting → AllByRecursion (λ (log : Logged). log.group < servers setting) logs →
    going_on (shape setting) server logs ≡ onward setting server logs
goes_on ends setting server [] ring inside below = refl
goes_on ends setting server (log ∷ logs) ring inside below =
    ap (λ b. cond (not b) (log ∷ going_on (shape setting) server logs) (going_on (shape setting) server logs))
    (ends (shape setting) log.group server ring below.0 inside)
    ∙ ap (λ rest. cond (not (is_tail setting log.group server)) (log ∷ rest) rest)
    (goes_on ends setting server logs ring inside below.1)

pub or_true : (a b : Bool) → b ≡ true → a || b ≡ true
or_true true b is = refl
or_true false b is = is

-- each log of a list is named by it
pub each_named : (logs : List Logged) →
    AllByRecursion (λ (log : Logged). names_log logs log.group log.origin ≡ true) logs
each_named [] = tt
each_named (log ∷ logs) = (
  ap (λ b. b || names_log logs log.group log.origin)
      (ap (λ b. b && log.origin == log.origin) (eq-eqb log.group log.group refl) ∙ eq-eqb log.origin log.origin refl),
  all-weaker (λ (other : Logged). names_log logs other.group other.origin ≡ true)
      (λ (other : Logged). names_log (log ∷ logs) other.group other.origin ≡ true)
      (λ other named. or_true (log.group == other.group && log.origin == other.origin)
      (names_log logs other.group other.origin) named)
      logs (each_named logs),
)

-- logs of a set of visits whose groups exist
pub groups_exist : (setting : Setting) (state : ChainState) (visits : Visits) (logs : List Logged) →
    AreLogsOf setting state visits logs → ((group packet : ℕ) → In visits group packet → group < servers setting) →
    AllByRecursion (λ (log : Logged). log.group < servers setting) logs
groups_exist setting state visits logs are exist =
    all-weaker (λ (log : Logged). names_log logs log.group log.origin
    ≡ true) (λ (log : Logged). log.group < servers setting)
    (λ log named. exist log.group log.origin (sym (are.names log.group log.origin) ∙ named)) logs (each_named logs)

-- no visits have no logs
pub no_logs : (setting : Setting) (state : ChainState) (logs : List Logged) → AreLogsOf setting state no_visits logs →
    logs ≡ []
no_logs setting state [] are = refl
no_logs setting state (log ∷ logs) are =
    let named = (each_named (log ∷ logs)).0 in
    let none = are.names log.group log.origin in
    absurd cc
