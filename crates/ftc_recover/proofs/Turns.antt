-- Logs that are applied one after another.
use Rattle.std.proofs.Common.{◌≡◌, ◌<◌, ◌≤◌, ◌∙◌, ℕ, zero, suc, List, [], ◌∷◌, ◌++◌, ◌+◌, length, take, get_or}
use Rattle.std.proofs.Common.{refl, sym, ap, subst, arith}
use Rattle.ftc_base.specs.declared.ask.Write.{Write}
use Rattle.ftc_base.specs.declared.limits.TheConstants.{MOST_PARTITIONS}
use Rattle.ftc_store.specs.Store.{Content, written, changed}
use Rattle.ftc_vector.specs.Vector.{number_at, raised}
use Rattle.ftc_vector.specs.Order.{IsLogReady}
use Rattle.ftc_message.specs.Logged.{Logged}
use Rattle.ftc_replica.specs.Held.{Held, applied}
use Rattle.ftc_recover.specs.Pulled.{applied_all, writes_of, AreReadyInTurn}

-- the log may be applied to a replica with that vector
pub record MayFollow (most : ℕ) (vector : List ℕ) (log : Logged) : Type 0 where
  pub ready : IsLogReady vector log.before log.changed
  pub bound : (partition : ℕ) → partition < MOST_PARTITIONS → number_at vector partition ≤ most

pub turn_at : (most : ℕ) (logs : List Logged) (held : Held) (place : ℕ) (d : Logged) → place < length logs
    → AreReadyInTurn most held.vector logs
    → MayFollow most (applied_all (take place logs) held).vector (get_or logs place d)
turn_at most [] held place d within turn = absurd (omega arith)
turn_at most (log ∷ logs) held zero d within turn = record { ready = turn.0; bound = turn.1 }
turn_at most (log ∷ logs) held (suc place) d within turn =
    turn_at most logs (applied log held) place d (omega arith) turn.2

pub turn_more : (most more : ℕ) (vector : List ℕ) (logs : List Logged) → most ≤ more → AreReadyInTurn most vector logs
    → AreReadyInTurn more vector logs
turn_more most more vector [] less turn = tt
turn_more most more vector (log ∷ logs) less turn = (
  turn.0,
  λ partition within. let below = turn.1 partition within in omega arith,
  turn_more most more (raised vector log.changed) logs less turn.2,
)

written_both : (writes others : List Write) (content : Content)
    → written (writes ++ others) content ≡ written others (written writes content)
written_both [] others content = refl
written_both (write ∷ writes) others content = written_both writes others (changed content write.key write.value)

pub content_after : (logs : List Logged) (held : Held)
    → (applied_all logs held).content ≡ written (writes_of logs) held.content
content_after [] held = refl
content_after (log ∷ logs) held =
    content_after logs (applied log held) ∙ sym (written_both log.writes (writes_of logs) held.content)

behind_none : (logs : List Logged) → logs ≡ logs ++ []
behind_none [] = refl
behind_none (log ∷ logs) = ap (λ (rest : List Logged). log ∷ rest) (behind_none logs)

behind_one : (logs others : List Logged) (log : Logged) → (logs ++ log ∷ []) ++ others ≡ logs ++ log ∷ others
behind_one [] others log = refl
behind_one (first ∷ logs) others log = ap (λ (rest : List Logged). first ∷ rest) (behind_one logs others log)

pub kept_after : (logs : List Logged) (held : Held) → (applied_all logs held).kept ≡ held.kept ++ logs
kept_after [] held = behind_none held.kept
kept_after (log ∷ logs) held = kept_after logs (applied log held) ∙ behind_one held.kept logs log

-- a log that stands at a place, and what the replica has when its turn has come
pub turn_here : (most : ℕ) (logs : List Logged) (held now : Held) (place : ℕ) (log : Logged) → place < length logs
    → log ≡ get_or logs place log → now ≡ applied_all (take place logs) held → AreReadyInTurn most held.vector logs
    → MayFollow most now.vector log
turn_here most logs held now place log within is same turn =
    subst (λ (l : Logged). MayFollow most now.vector l) (sym is)
    (subst (λ (h : Held). MayFollow most h.vector (get_or logs place log)) (sym same)
    (turn_at most logs held place log within turn))

applied_next : (logs : List Logged) (held : Held) (place : ℕ) (d : Logged) → place < length logs
    → applied_all (take (suc place) logs) held ≡ applied (get_or logs place d) (applied_all (take place logs) held)
applied_next [] held place d within = absurd (omega arith)
applied_next (log ∷ logs) held zero d within = refl
applied_next (log ∷ logs) held (suc place) d within = applied_next logs (applied log held) place d (omega arith)

pub applied_here : (logs : List Logged) (held now after : Held) (place : ℕ) (log : Logged) → place < length logs
    → log ≡ get_or logs place log → now ≡ applied_all (take place logs) held → after ≡ applied log now
    → after ≡ applied_all (take (place + 1) logs) held
applied_here logs held now after place log within is same did =
    let next : suc place ≡ place + 1 = omega arith in
    did ∙ ap (applied log) same
    ∙ ap (λ (l : Logged). applied l (applied_all (take place logs) held)) is
    ∙ sym (applied_next logs held place log within)
    ∙ ap (λ (n : ℕ). applied_all (take n logs) held) next

pub turn_push : (most : ℕ) (logs : List Logged) (held : Held) (log : Logged) → AreReadyInTurn most held.vector logs
    → MayFollow most (applied_all logs held).vector log → AreReadyInTurn most held.vector (logs ++ log ∷ [])
turn_push most [] held log turn may = (may.ready, may.bound, tt)
turn_push most (first ∷ logs) held log turn may =
    (turn.0, turn.1, turn_push most logs (applied first held) log turn.2 may)

taken_next : (logs : List Logged) (place : ℕ) (d : Logged) → place < length logs
    → take (suc place) logs ≡ take place logs ++ get_or logs place d ∷ []
taken_next [] place d within = absurd (omega arith)
taken_next (log ∷ logs) zero d within = refl
taken_next (log ∷ logs) (suc place) d within =
    ap (λ (rest : List Logged). log ∷ rest) (taken_next logs place d (omega arith))

pub push_here : (most : ℕ) (logs : List Logged) (held now : Held) (place : ℕ) (log : Logged) → place < length logs
    → log ≡ get_or logs place log → now ≡ applied_all (take place logs) held
    → AreReadyInTurn most held.vector (take place logs) → MayFollow most now.vector log
    → AreReadyInTurn most held.vector (take (place + 1) logs)
push_here most logs held now place log within is same turn may =
    let next : suc place ≡ place + 1 = omega arith in
    let longer : take (place + 1) logs ≡ take place logs ++ log ∷ [] =
    ap (λ (n : ℕ). take n logs) (sym next) ∙ taken_next logs place log within
    ∙ ap (λ (l : Logged). take place logs ++ l ∷ []) (sym is) in
    subst (λ (l : List Logged). AreReadyInTurn most held.vector l) (sym longer)
    (turn_push most (take place logs) held log turn (subst (λ (h : Held). MayFollow most h.vector log) same may))
