use Rattle.std.proofs.Common.{◌≡◌, ℕ, ap, add-one, ◌++◌, ◌∷◌, [], map, take}
use Rattle.ftc_serial.specs.declared.position.Position.TheVariants.{Waiting}
use Rattle.ftc_serial.proofs.Places.{map_take_more}
use Rattle.ftc_serial.proofs.opening.first_positions.Goals as goal

pub loop-place-preserved : goal.loop-place-preserved
loop-place-preserved c =
    let first : c.unwrap-server.result ≡ 0 = rw c.unwrap-server.ensures at c.new.ensures.same in
    rw (
      add-one,
      map_take_more
          (λ packet. Waiting 0 packet.bytes) c.args.packets.now c.loop-place.place c.at.result.now c.at.ensures.same,
      c.in_ok-push.ensures.items,
      c.loop-place.invariant,
      c.in_ok-bytes.ensures,
    )
    (ap (λ (server : ℕ). map (λ packet. Waiting 0 packet.bytes) (take c.loop-place.place c.args.packets.now)
    ++ Waiting server c.at.result.now.bytes ∷ []) first)
