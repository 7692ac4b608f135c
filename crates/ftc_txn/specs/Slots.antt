-- What a slot runs.
use Rattle.std.specs.Prelude.{◌≡◌, ◌++◌, ℕ, List, [], ◌∷◌, Option, Some, None, slice_index_or, refl}
use Rattle.std.specs.Coded.{Coded, code_by, coded×, coded_ℕ, coded_list, coded_option}
use Rattle.ftc_base.specs.declared.ask.Answer.{Answer}
use Rattle.ftc_txn.specs.declared.turn.Turn.{Turn}
use Rattle.ftc_txn.specs.declared.turn.Turn.TheVariants.{Idle, Wounded, Unwounded}

-- a slot that isn't idle runs for a packet with an age, has these answers, in order, and possibly was wounded by a
-- worker
pub record Running : Type 0 where
  pub packet : ℕ
  pub age : ℕ
  pub answers : List Answer
  pub wounded : Option ℕ

-- what a slot runs, where it isn't idle
abbrev pub slot_at : List (Option Running) → ℕ → Option Running
slot_at slots worker = slice_index_or slots worker None

-- a transaction that begins
abbrev pub begun : ℕ → ℕ → Running
begun packet age = record { packet = packet; age = age; answers = []; wounded = None }

-- a transaction begins again with its age
abbrev pub restarted : Running → Running
restarted running = begun running.packet running.age

-- a transaction has one more answer
abbrev pub answered : Running → Answer → Running
answered running answer = record running { answers = running.answers ++ answer ∷ [] }

-- a slot after a worker wounded what it runs
abbrev pub wounded_by : ℕ → Option Running → Option Running
wounded_by worker None = None
wounded_by worker (Some running) = Some (record running { wounded = Some worker })

-- the worker that wounded what a slot runs, where it is wounded
abbrev pub wounded_of : Option Running → Option ℕ
wounded_of None = None
wounded_of (Some running) = running.wounded

abbrev pub wounded_at : List (Option Running) → ℕ → Option ℕ
wounded_at slots worker = wounded_of (slot_at slots worker)

-- the packet that a slot runs for, where it isn't idle
abbrev pub packet_of : Option Running → Option ℕ
packet_of None = None
packet_of (Some running) = Some running.packet

abbrev pub packet_at : List (Option Running) → ℕ → Option ℕ
packet_at slots worker = packet_of (slot_at slots worker)

-- how a slot stands
abbrev pub IsTurn : Option Running → Turn → Type 0
IsTurn slot Idle = slot ≡ None
IsTurn slot (Wounded by) = (running : Running) × (slot ≡ Some running) × (running.wounded ≡ Some by)
IsTurn slot (Unwounded age) = (running : Running) × (slot ≡ Some running) × (running.wounded ≡ None)
    × (running.age ≡ age)

abbrev pub answer_code : Coded Answer
answer_code =
    code_by (List ℕ × Option (List ℕ)) (coded× (coded_list coded_ℕ) (coded_option (coded_list coded_ℕ)))
    (λ answer. (answer.key, answer.value)) (λ parts. record { key = parts.0; value = parts.1 }) (λ _. refl)

abbrev pub running_code : Coded Running
running_code =
    code_by (ℕ × (ℕ × (List Answer × Option ℕ)))
    (coded× coded_ℕ (coded× coded_ℕ (coded× (coded_list answer_code) (coded_option coded_ℕ))))
    (λ running. (running.packet, (running.age, (running.answers, running.wounded)))) (λ parts. record {
      packet = parts.0;
      age = parts.1.0;
      answers = parts.1.1.0;
      wounded = parts.1.1.1;
    }) (λ _. refl)
