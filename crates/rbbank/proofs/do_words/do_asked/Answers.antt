-- What is asked for is done, and nothing is written but by that.
use Rattle.std.proofs.Common.{◌≡◌, ◌∙◌, List, [], ℕ, Bor, Option, None, Some, append-nil, refl, subst, sym, true}
use Rattle.std.specs.Prelude.{IfSome}
use Rattle.std.specs.Io.KnownBytes.{Appends}
use Rattle.rb_cli.specs.declared.words.Words.TheVariants.{Seal, Site}
use Rattle.rb_history.specs.Ids.{is_id}
use Rattle.rbbank.specs.Asked.{DoesAsAsked}
use Rattle.rbbank.specs.declared.done.Done.TheVariants.{BadBank}
use Rattle.rbbank.proofs.do_words.do_asked.Goals.{in_default-via-in-Some+else-not-is_id, in_default-via-in_default}
use Rattle.rbbank.proofs.do_words.do_asked.Goals as goal

-- known bytes grow by nothing
appends_nothing : (bytes : Option (List ℕ)) → Appends bytes bytes []
appends_nothing None = tt
appends_nothing (Some xs) = sym (append-nil xs)

-- a name that isn't there is an id
unnamed : (bank : Option (Bor (List ℕ))) → ((name : Bor (List ℕ)) → bank ≡ Some name → ⊥)
    → IfSome bank (λ name. is_id name.now ≡ true)
unnamed None none = tt
unnamed (Some name) none = absurd (none name refl)

pub returns-in-Some-clause-done : goal.returns-in-Some-clause-done
returns-in-Some-clause-done g c =
    let met = c.in-Site in
    let rest = g.S.Source.remaining c.args.reader.now.source in (
      [],
      appends_nothing _,
      subst (λ asked. DoesAsAsked asked rest rest BadBank []) (sym met.is)
          (subst (λ bank. DoesAsAsked (Site met.me met.journal met.is_new met.resend met.record bank) rest rest BadBank [])
          (sym c.in-Some.is)
          (sym c.is_id.ensures ∙ c.if-not-is_id.true, refl, refl)),
    )

pub returns-in_default-clause-done : goal.returns-in_default-clause-done
returns-in_default-clause-done g c =
    let met = c.in-Site in
    let rest = g.S.Source.remaining c.args.reader.now.source in
    let left = g.S.Source.remaining c.run_on_disk.new.reader in
    let named : IfSome met.bank (λ name. is_id name.now ≡ true) = elim c.in_default.branch [
      | in_default-via-in-Some+else-not-is_id w ↦ subst (λ bank. IfSome bank (λ name. is_id name.now ≡ true)) (sym w.in-Some.is)
          (sym w.is_id.ensures ∙ w.if-not-is_id.false)
      | in_default-via-in_default w ↦ unnamed met.bank w.in_default.not-Some
    ] in (
      [],
      appends_nothing _,
      subst (λ asked. DoesAsAsked asked rest left c.of_site.result.done []) (sym met.is)
          (subst (λ done. DoesAsAsked (Site met.me met.journal met.is_new met.resend met.record met.bank) rest left done [])
          (sym c.of_site.ensures.done) (named, c.run_on_disk.ensures.ran, refl)),
    )

pub returns-in-Seal-clause-done : goal.returns-in-Seal-clause-done
returns-in-Seal-clause-done g c =
    let met = c.in-Seal in
    let rest = g.S.Source.remaining c.args.reader.now.source in (
      [],
      appends_nothing _,
      subst (λ asked. DoesAsAsked asked rest rest c.of_site-in-Seal.result.done []) (sym met.is)
          (subst (λ done. DoesAsAsked (Seal met.me met.journal) rest rest done []) (sym c.of_site-in-Seal.ensures.done)
          (c.seal_on_disk.ensures.sealed, refl, refl)),
    )
