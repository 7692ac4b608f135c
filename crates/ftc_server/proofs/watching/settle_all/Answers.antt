use Rattle.std.proofs.Common.{◌≡◌, ◌≢◌, ◌∙◌, ◌+◌, ◌&&◌, ◌||◌, not, ℕ, suc, Bool, true, false, List, refl, sym, ap}
use Rattle.std.proofs.Common.{subst, take, arith}
use Rattle.std.specs.Prelude.{◌==◌}
use Rattle.std.specs.List.{list_all}
use Rattle.std.proofs.lemmas.Bool.{eqb-true, eq-eqb, ne_eqb}
use Rattle.ftc_server.specs.declared.held.HeldMessage.{HeldMessage}
use Rattle.ftc_server.specs.Holding.{found, rests, origins_of}
use Rattle.ftc_server.specs.Waiting.{is_settled, is_idle, is_idle_one}
use Rattle.ftc_server.proofs.Distinct.{found_at, settled_step}
use Rattle.ftc_server.proofs.Ascending.{or_true}
use Rattle.ftc_server.specs.Tickets.{AreDistinct}
use Rattle.ftc_server.proofs.watching.settle_all.Goals as goal

untouched : (old same idle roused new : Bool) → new ≡ roused || (same && idle) → roused ≡ old && not same →
    same ≡ false → new ≡ old
untouched true same idle roused new is was differs = cc
untouched false same idle roused new is was differs = cc

looked_at : (old same idle roused new : Bool) → new ≡ roused || (same && idle) → roused ≡ old && not same →
    same ≡ true → not new || idle ≡ true
looked_at old same true roused new is was equal = or_true (not new)
looked_at true same false roused new is was equal = let e : new ≡ false = cc in ap (λ (b : Bool). not b || false) e
looked_at false same false roused new is was equal = let e : new ≡ false = cc in ap (λ (b : Bool). not b || false) e

pub loop-place-preserved : goal.loop-place-preserved
loop-place-preserved c =
    let inv = c.loop-place.invariant in
    let replicas = c.args.replicas.now in
    let items = c.loop-place.held.items in
    let place = c.loop-place.place in
    let held = c.at.result.now in
    let origin = held.message.origin in
    let old = c.loop-place.held.resting in
    let new = c.settle.new.held.resting in
    let same_items = c.settle.ensures.items ∙ c.rouse.ensures.items in
    let distinct : AreDistinct (origins_of items) =
    subst (λ (all : List HeldMessage). AreDistinct (origins_of all)) (sym inv.items) c.len-place-end.ensures.distinct in
    let next : place + 1 ≡ suc place = omega arith in
    let there = found_at items place held distinct c.at.ensures in
    let idle : is_idle_one replicas (found origin c.rouse.new.self.items) ≡ is_idle replicas held.message.logs =
    ap (λ (messages : List HeldMessage). is_idle_one replicas (found origin messages)) c.rouse.ensures.items
    ∙ ap (is_idle_one replicas) there in
    let others : (other : ℕ) → other ≢ origin → rests other new ≡ rests other old =
    λ other differs. untouched (rests other old) (other == origin)
    (is_idle_one replicas (found origin c.rouse.new.self.items)) (rests other c.rouse.new.self.resting)
    (rests other new) (c.settle.ensures.resting other) (c.rouse.ensures.resting other)
    (ne_eqb other origin differs) in
    let settled : is_settled replicas new held ≡ true =
    ap (λ (b : Bool). not (rests origin new) || b) (sym idle)
    ∙ looked_at (rests origin old) (origin == origin) (is_idle_one replicas (found origin c.rouse.new.self.items))
    (rests origin c.rouse.new.self.resting) (rests origin new) (c.settle.ensures.resting origin)
    (c.rouse.ensures.resting origin) (eq-eqb origin origin refl) in
    record {
      items = same_items ∙ inv.items;
      spare = c.settle.ensures.spare ∙ (c.rouse.ensures.spare ∙ inv.spare);
      had = c.settle.ensures.had ∙ (c.rouse.ensures.had ∙ inv.had);
      settled = ap (λ (messages : List HeldMessage). list_all (is_settled replicas new) (take (place + 1) messages))
          same_items
          ∙ ap (λ (n : ℕ). list_all (is_settled replicas new) (take n items)) next
          ∙ settled_step replicas old new items place held distinct c.at.ensures others settled inv.settled;
    }
