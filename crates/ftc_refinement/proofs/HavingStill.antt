-- A set that has a visit has it still where the set grows and where the trace gains or loses other visits.
use Rattle.std.proofs.Common.{◌≡◌, ℕ, ◌==◌, ◌&&◌, true, false, not, cond, List, ◌∷◌, inl, inr, refl}
use Rattle.ftc_serial.specs.Removal.{left_of}
use Rattle.ftc_serial.specs.Serial.{Entry, Visited, Given}
use Rattle.ftc_serial.specs.Take.{Outcome}
use Rattle.ftc_protocol.specs.Changes.{is_changing}
use Rattle.ftc_protocol.specs.Next.{pulled_list}
use Rattle.ftc_protocol.specs.Setting.{Setting, is_member}
use Rattle.ftc_protocol.specs.State.{ChainState}
use Rattle.ftc_protocol.specs.Trace.{Has}
use Rattle.ftc_protocol.specs.Visits.{Visits, In}
use Rattle.ftc_protocol.proofs.TraceLemmas.{before_last, before_left, visit_left, visit_stood}

module _ (partitions : ℕ) (trace : List Entry) where
  pub has_more : (few many : Visits) (group packet : ℕ) → ((other : ℕ) → In few group other → In many group other) →
      Has partitions trace few group packet → Has partitions trace many group packet
  has_more few many group packet more has = record {
    changing = λ is. more packet (has.changing is);
    other = λ still earlier before. more earlier (has.other still earlier before);
  }

  module _ (visits : Visits) (group packet : ℕ) (has : Has partitions trace visits group packet) where
    pub has_left : (gone : Visits) → Has partitions (left_of gone trace) visits group packet
    has_left gone = record {
      changing = λ is. has.changing (visit_stood gone (λ o. is_changing partitions o ≡ true) trace group packet is).0;
      other = λ still earlier before.
          let stays : gone group packet ≡ false = (visit_stood gone (λ o. Unit {0}) trace group packet
          (before_last partitions (left_of gone trace) group earlier packet before)).1 in
          has.other (λ is. still (visit_left gone (λ o. is_changing partitions o ≡ true) trace group packet is stays))
          earlier
          (before_left gone partitions trace group earlier packet before);
    }

    pub has_grown : (visited passed : ℕ) (outcome : Outcome) → ((visited ≡ group) × (passed ≡ packet) → ⊥) →
        Has partitions (Visited visited passed outcome ∷ trace) visits group packet
    has_grown visited passed outcome differs = record {
      changing = λ is. elim is [ inl here ↦ absurd (differs (here.0, here.1)) | inr there ↦ has.changing there ];
      other = λ still earlier before. elim before [
        | inl here ↦ absurd (differs (here.1.0, here.0))
        | inr there ↦ has.other (λ is. still (inr is)) earlier there
      ];
    }

    pub has_given : (released : ℕ) (bytes : List ℕ) → Has partitions (Given released bytes ∷ trace) visits group packet
    has_given released bytes = record {
      changing = λ is. elim is [ inl here ↦ absurd here | inr there ↦ has.changing there ];
      other = λ still earlier before. elim before [
        | inl here ↦ absurd here.0
        | inr there ↦ has.other (λ is. still (inr is)) earlier there
      ];
    }

-- the receiver of a pull
pub pull_has : (setting : Setting) (state : ChainState) (sender receiver group packet : ℕ) →
    (is_member setting group sender && is_member setting group receiver && not (group == receiver) ≡ true →
    (other : ℕ) → In (state.lists receiver) group other → In (state.lists sender) group other) →
    Has setting.partitions state.trace (state.lists receiver) group packet →
    Has setting.partitions state.trace (pulled_list setting state sender receiver) group packet
pull_has setting state sender receiver group packet below has =
    has_more setting.partitions state.trace (state.lists receiver)
    (pulled_list setting state sender receiver) group packet
    (λ other listed. elim (is_member setting group sender && is_member setting group receiver && not
    (group == receiver)) as
    (λ b. is_member setting group sender && is_member setting group receiver && not (group == receiver) ≡ b →
    cond b (state.lists sender group other) (state.lists receiver group other) ≡ true) [
      | true ↦ λ shared. below shared other listed
      | false ↦ λ apart. listed
    ] refl) has
