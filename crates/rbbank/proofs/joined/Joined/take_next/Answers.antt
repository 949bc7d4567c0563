-- One file more is joined, or it has another first line.
use Rattle.std.proofs.Common.{◌≤◌, ◌∙◌, ◌+◌, ◌∷◌, [], ap, length, length-append, subst, sym}
use Rattle.rbbank.specs.Files.{AreJoined, AreNoInput, first_line, lines_behind}
use Rattle.rbbank.specs.declared.joined.FilesFault.TheVariants.{AnotherBank}
use Rattle.rbbank.proofs.LinesOfFiles.{is_another, joined_more}
use Rattle.rbbank.proofs.joined.Joined.take_next.Goals as goal

pub returns-in_default-behind_head : goal.returns-in_default-behind_head
returns-in_default-behind_head g c =
    let files = g.F.JournalFiles.read c.args.files.now in
    let bytes = c.in-Some.bytes.items in
    subst (λ fs. AreNoInput (c.args.file + 1) fs (AnotherBank c.args.file)) (sym c.in-Some.ensures.bytes)
    (is_another files c.args.self.now.bytes.items bytes c.args.file c.requires.file c.requires.taken.input
    (λ same. c.in_default-behind_head.ensures
    (ap first_line c.deref-2.ensures.value ∙ same ∙ sym (ap first_line c.deref.ensures.value))))

pub returns : goal.returns
returns g c =
    let files = g.F.JournalFiles.read c.args.files.now in
    let bytes = c.in-Some.bytes.items in
    let behind = c.in-Some-behind_head.ensures in
    let head = sym (ap first_line c.deref-2.ensures.value) ∙ behind.0 ∙ ap first_line c.deref.ensures.value in
    let rest = behind.1 ∙ ap lines_behind c.deref-2.ensures.value in
    let joined = joined_more files c.args.self.now c.add.new.self bytes c.in-Some-behind_head.rest.now
    (subst (λ n. 1 ≤ n) (sym c.requires.file) c.requires.some) c.requires.taken head rest c.in_ok-add.ensures.lines
    c.in_ok-add.ensures.counts in
    let count = ap length c.in-Some.ensures.bytes ∙ length-append files (bytes ∷ []) ∙ ap (λ n. n + 1) c.requires.file in
    (count, subst (λ fs. AreJoined fs c.add.new.self) (sym c.in-Some.ensures.bytes) joined)
