use Rattle.std.proofs.Common.{◌≡◌, ◌∙◌, ◌∷◌, ◌++◌, [], List, ap, length, rules, sym}
use Rattle.std.specs.BTreeSet.{keys}
use Rattle.ftc_base.specs.declared.released.Released.{Released}
use Rattle.ftc_audit.specs.Sources.{sources_of}
use Rattle.ftc_audit.proofs.SourcesGrow.{sources_more, are_few}
use Rattle.ftc_audit.proofs.tap.AuditTapTap.see.Goals as goal

pub invariant_of-self-2 : goal.invariant_of-self-2
invariant_of-self-2 c =
    let one : Released = record { packet = c.args.number; bytes = c.args.bytes.now } in
    let told : List Released = c.self.inside.told.items in
    let grown : c.push_reserved.new.self.items ≡ told ++ one ∷ [] = search rules in
    sources_more (keys c.self.inside.sources) (keys c.add_source.new.sources) told one c.self.invariant
    c.in_ok-add_source.ensures.ok ∙ ap sources_of (sym grown)

pub returns-clause-stays : goal.returns-clause-stays
returns-clause-stays c =
    let one : Released = record { packet = c.args.number; bytes = c.args.bytes.now } in
    let told : List Released = c.self.inside.told.items in
    let sources : keys c.add_source.new.sources ≡ sources_of (told ++ one ∷ []) =
    sources_more (keys c.self.inside.sources) (keys c.add_source.new.sources) told one c.self.invariant
    c.in_ok-add_source.ensures.ok in
    rw (← c.self.view_is)
    (are_few c.len.result c.self.inside.most (sources_of (told ++ one ∷ [])) (c.len.ensures.len ∙ ap length sources))
