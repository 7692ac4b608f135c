use Rattle.std.proofs.Common.{◌≡◌, ℕ, List, Ok, Err, subst}
use Rattle.ftc_conf.specs.Grammar.{chain_of}
use Rattle.ftc_conf.specs.declared.fault.ChainFault.{ChainFault}
use Rattle.ftc_mbox.specs.Chain.{Chain}
use Rattle.ftc.specs.Making.{made_text}
use Rattle.ftc.proofs.MakeLemmas.{no_fault, fault_told}
use Rattle.ftc.proofs.making.made_chain.Goals as goal

pub unreachable-requires : goal.unreachable-requires
unreachable-requires c =
    let text : c.as_bytes.result.now ≡ made_text = c.as_bytes.ensures.value in
    let fault = c.in-Err-Bad.field-0-0 in
    no_fault fault (subst (λ (t : List ℕ). chain_of t ≡ Err fault) text
    (fault_told Chain ChainFault (λ one. chain_of c.as_bytes.result.now
    ≡ Err one) c.in-Err-Bad.field-0 c.in-Err-Bad.ensures.bad fault
    c.in-Err-Bad.field-0-is))

pub returns-in-Ok : goal.returns-in-Ok
returns-in-Ok c =
    let text : c.as_bytes.result.now ≡ made_text = c.as_bytes.ensures.value in
    subst (λ (t : List ℕ). chain_of t ≡ Ok c.in-Ok.spec) text c.in-Ok.ensures.ok
