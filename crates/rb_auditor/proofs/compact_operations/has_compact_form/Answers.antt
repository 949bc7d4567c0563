-- The entries past the sites are 0, and the own one is looked at.
use Rattle.std.proofs.Common.{◌∙◌, arith, sym}
use Rattle.std.proofs.lemmas.Bool.{eqb-true}
use Rattle.rb_auditor.proofs.Clocks
use Rattle.rb_auditor.proofs.compact_operations.has_compact_form.Goals as goal

pub returns : goal.returns
returns c = λ yes.
    let blue = c.args.shadow.now.deps.blue in
    record {
      entries = (
        Clocks.total blue,
        Clocks.of_sites c.args.sites (Clocks.total blue) blue (omega arith) (sym c.are_none_from.ensures ∙ c.if-not-are_none_from.false),
      );
      home = sym c.is_foreign.ensures ∙ c.if-is_foreign.false;
      own = omega (
        arith,
        eqb-true _ _ yes,
        c.entry.ensures,
        c.from-entry.ensures,
        c.number.ensures,
        c.from-number.ensures,
      );
    }
