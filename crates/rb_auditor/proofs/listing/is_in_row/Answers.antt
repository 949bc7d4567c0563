-- The position that is listed for the number is the only one to look at.
use Rattle.std.proofs.Common.{◌≡◌, ◌∙◌, ap, sym, slice_get, length, refl}
use Rattle.std.proofs.lemmas.Option.{slice_get_past, slice_get_read}
use Rattle.rb_site.proofs.Public.Recorded
use Rattle.rb_auditor.proofs.Listed
use Rattle.rb_auditor.proofs.listing.is_in_row.Goals as goal

pub returns-in-Some-get-clause-known : goal.returns-in-Some-get-clause-known
returns-in-Some-get-clause-known c = λ m here yes. Recorded.at_place c.args.posted.now.items c.in-Some-get.position.now m
    ((c.is_at.ensures m here).0 yes)

pub returns-in-Some-get-clause-found : goal.returns-in-Some-get-clause-found
returns-in-Some-get-clause-found c = λ m positions position here there at known.
    let row = Listed.row_at c.args.rows.now c.args.row c.in-Some.positions.now c.in-Some.ensures.lookup.3.0 c.in-Some.ensures.lookup.1 in
    let listed = slice_get_read c.deref.result.now (length c.deref.result.now) c.args.slot c.in-Some-get.position.now refl
    c.in-Some-get.ensures.lookup.3.0 c.in-Some-get.ensures.lookup.1 in
    let same : position ≡ c.in-Some-get.position.now = cc (at, there, row, c.deref.ensures.value, listed) in
    (c.is_at.ensures m here).1 (ap (slice_get c.args.posted.now.items) (sym same) ∙ known)

pub returns-in-None-get-clause-found : goal.returns-in-None-get-clause-found
returns-in-None-get-clause-found c = λ m positions position here there at known.
    let row = Listed.row_at c.args.rows.now c.args.row c.in-Some.positions.now c.in-Some.ensures.lookup.3.0 c.in-Some.ensures.lookup.1 in
    let past = slice_get_past c.deref.result.now c.args.slot c.in-None-get.ensures.lookup.3 in
    cc (at, there, row, c.deref.ensures.value)
