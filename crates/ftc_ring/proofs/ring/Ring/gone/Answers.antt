use Rattle.std.proofs.Common.{◌≡◌, ◌∙◌, ◌-◌, sym, Some, None, true, false, rules, arith}
use Rattle.std.specs.Option.{is_none}
use Rattle.ftc_ring.specs.Live.{is_live, first_live_of, gone_of}
use Rattle.ftc_ring.proofs.Nearest.{gone_some, gone_not, rising_here, rising_on}
use Rattle.ftc_ring.proofs.ring.Ring.gone.Goals as goal

pub returns-then-is_none : goal.returns-then-is_none
returns-then-is_none c =
    let is : is_none (first_live_of c.args.self.now (is_live c.args.down) c.loop-number.number) ≡ true = search rules in
    let told : Some c.server_of-group.result ≡ gone_of c.args.self.now (is_live c.args.down) =
    rw c.server_of-group.ensures
    (sym (rising_here (λ group. is_none
    (first_live_of c.args.self.now (is_live c.args.down) group)) c.loop-number.number c.args.self.now.servers
    (omega arith) is) ∙ c.loop-number.invariant.same) in
    record {
      value = told;
      first = gone_some c.args.self.now (is_live c.args.down)
          (Some c.server_of-group.result) c.loop-number.invariant.shape told;
      none = gone_not c.args.self.now (is_live c.args.down)
          (Some c.server_of-group.result) c.loop-number.invariant.shape told;
    }

pub loop-number-preserved : goal.loop-number-preserved
loop-number-preserved c =
    let is : is_none (first_live_of c.args.self.now (is_live c.args.down) c.loop-number.number) ≡ false =
    search rules in
    record {
      shape = c.loop-number.invariant.shape;
      same = sym (rising_on (λ group. is_none
          (first_live_of c.args.self.now (is_live c.args.down) group)) c.loop-number.number c.args.self.now.servers
          (omega arith) is) ∙ c.loop-number.invariant.same;
    }

pub returns : goal.returns
returns c =
    let none : c.args.self.now.servers - c.loop-number.number ≡ 0 = omega arith in
    let told : None ≡ gone_of c.args.self.now (is_live c.args.down) = rw none at c.loop-number.invariant.same in
    record {
      value = told;
      first = tt;
      none = gone_not c.args.self.now (is_live c.args.down) None c.loop-number.invariant.shape told;
    }
