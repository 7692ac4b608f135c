-- An accepted chain and script give what the proofs suppose of a setting.
use Rattle.std.proofs.Common.{◌≡◌, ℕ, ◌<◌, ◌≤◌, ◌^◌, ◌==◌, if◌then◌else◌, Some, Bool, true, false, List, [], ◌∷◌, refl}
use Rattle.std.proofs.Common.{sym, subst, ◌∙◌, arith, length, eqb-true, lt-ltb}
use Rattle.std.specs.List.{AllByRecursion, find}
use Rattle.ftc_base.specs.declared.limits.TheConstants.{MOST_RECORDS}
use Rattle.ftc_protocol.specs.Measure.{most_messages}
use Rattle.ftc_mbox.specs.Chain.{Chain, IsChain}
use Rattle.ftc_ring.specs.Ring.{RingShape, IsRing}
use Rattle.ftc_ring.specs.Live as ring
use Rattle.ftc_script.specs.declared.line.ScriptLine.{ScriptLine}
use Rattle.ftc_script.specs.declared.line.ScriptLine.TheVariants.{Crash, Recover}
use Rattle.std.proofs.lemmas.Bool.{true≢false, and_parts}
use Rattle.std.specs.Option.{is_some, option_map}
use Rattle.ftc_script.specs.declared.line.LoseLine.{LoseLine}
use Rattle.ftc_script.specs.Script.{ScriptShape, IsScript, IsLose, loses_of, is_of}
use Rattle.ftc_script.specs.Steps.{all_live, AreSteps}
use Rattle.ftc_script.proofs.InTurn.{keeps}
use Rattle.ftc_serial.specs.Words.{with_at}
use Rattle.ftc_serial.proofs.Functions.{with_at_both}
use Rattle.ftc_protocol.specs.Setting.{Setting, servers, shape, count, setting_of, IsSetting}
use Rattle.ftc_protocol.specs.State.{opening}
use Rattle.ftc_protocol.proofs.ChangeLaws.{changed_touched}
use Rattle.ftc_protocol.proofs.Places.{IsSoundTaking}
use Rattle.ftc_protocol.proofs.Premises.{IsAdmissible, AreFit, IsGood}

-- two tests agree on the servers
abbrev Agree : Setting → (ℕ → Bool) → (ℕ → Bool) → Type 0
Agree c up live = (server : ℕ) → server < servers c → up server ≡ live server

module _ (c : Setting) where
  admissible : (up live : ℕ → Bool) → Agree c up live → ring.IsAdmissible (shape c) live → IsAdmissible c up
  admissible up live agree is group below = let found =
      is.each group below in (found.server, found.within, agree found.server found.within ∙ found.up, found.member)

  agree_at : (up live : ℕ → Bool) → Agree c up live → (k : ℕ) (b : Bool) → Agree c (with_at up k b) (with_at live k b)
  agree_at up live agree k b server below =
      with_at_both (λ (x y : Bool). x ≡ y) up live k b b server (λ same. refl) (λ other. agree server below)

  pub are_fit : (lines : List ScriptLine) (last : ℕ) (up live : ℕ → Bool) → Agree c up live →
      ring.IsAdmissible (shape c) live → AreSteps (shape c) (count c) last live lines → AreFit c up lines
  are_fit [] last up live agree is all = admissible up live agree is
  are_fit (Crash at server ∷ lines) last up live agree is all = (
    admissible up live agree is,
    all.0.0.within,
    (λ no. absurd (cc)),
    are_fit lines at (with_at up server false) (with_at live server false) (agree_at up live agree server false)
        (keeps (shape c) (count c) last live (Crash at server) is all.0) all.1,
  )
  are_fit (Recover at server ∷ lines) last up live agree is all = (
    admissible up live agree is,
    all.0.0.within,
    (λ no. agree server all.0.0.within ∙ all.0.1),
    are_fit lines at (with_at up server true) (with_at live server true) (agree_at up live agree server true)
        (keeps (shape c) (count c) last live (Recover at server) is all.0) all.1,
  )

  pub all_admissible : IsRing (shape c) → ring.IsAdmissible (shape c) all_live
  all_admissible is = record {
    each = λ group below. record {
      server = group;
      within = below;
      member = grind (arith);
      up = refl;
    };
  }

pub sound_taking : (c : Setting) → IsSoundTaking c
sound_taking c = record { touched = changed_touched c.partitions }

pub is_good : (c : Setting) → IsSetting c → IsGood c
is_good c is = record { some = is.ring.some; small = is.ring.failures; sound = sound_taking c }

pub opens_fit : (c : Setting) → IsSetting c → AreFit c (opening c).up c.lines
opens_fit c is = are_fit c c.lines 0 (opening c).up all_live (λ server below. lt-ltb server (servers c) below)
    (all_admissible c is.ring) is.lines

-- a message that is lost is a packet's
lost_below : (r : RingShape) (packets link origin : ℕ) (loses : List LoseLine) →
    AllByRecursion (IsLose r packets) loses → is_some (loses_of loses link origin) ≡ true → origin < packets
lost_below r packets link origin [] all lost = absurd (true≢false (sym lost))
lost_below r packets link origin (line ∷ loses) all lost =
    elim (is_of link origin line) as (λ b. is_of link origin line ≡ b →
    is_some (option_map (λ (found : LoseLine). found.line) (if b then Some line
    else find (is_of link origin) loses)) ≡ true → origin < packets) [
      | true ↦ λ is there. let same : line.origin ≡ origin =
          eqb-true line.origin origin (and_parts (line.link == link) (line.origin == origin) is).1 in
          subst (λ n. n < packets) same (let first = all.0 in first.origin)
      | false ↦ λ isnt more. lost_below r packets link origin loses all.1 more
    ] refl lost

-- an accepted chain and an accepted script for it and for the packets give such a setting
pub is_setting : (chain : Chain) (packets : List (List ℕ)) (script : ScriptShape) → IsChain chain → IsScript script
    → script.ring ≡ record { servers = length chain.rules; failures = chain.failures } →
    script.packets ≡ length packets → IsSetting (setting_of chain packets script)
is_setting chain packets script bounds is ring_is packets_are = record {
  ring = subst IsRing ring_is is.ring;
  some_partition = omega (arith, bounds.some_partition);
  few_partitions = bounds.partitions;
  lines = subst (λ (r : RingShape). AreSteps r (length packets) 0 all_live script.steps) ring_is
      (subst (λ n. AreSteps script.ring n 0 all_live script.steps) packets_are is.steps);
  ends = λ server below. is.all_live server (subst (λ (r : RingShape). server < r.servers) (sym ring_is) below);
  loses = λ link origin lost. subst (λ n. origin < n) packets_are
      (lost_below script.ring script.packets link origin script.loses is.loses lost);
}

-- and its messages' numbers fit 32 bits
pub few_messages : (chain : Chain) (packets : List (List ℕ)) (script : ScriptShape) → IsScript script →
    length packets ≤ MOST_RECORDS → most_messages (setting_of chain packets script) < 2 ^ 32
few_messages chain packets script is few = omega (arith, few, is.few)
