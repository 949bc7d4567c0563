-- A journal whose calls somebody else makes.
use Rattle.std.proofs.Common.{◌≡◌, ◌∙◌, ℕ, List, [], ◌++◌, length, sym, ap, subst, ⊎_elim, inl, inr}
use Rattle.rb_journal.specs.Alone.{AreEither}
use Rattle.rb_journal.specs.Calls.{NotedCall, content_of, faults_of, leaves, left_since}
use Rattle.rb_journal.specs.Host.{LeavesOnly, Only}
use Rattle.rb_journal.specs.Journal.{IsSettled}
use Rattle.rb_journal.specs.Lines.{at_rest, recovered}
use Rattle.rb_journal.specs.PlannedFiles.{log_left, log_made, log_planned}
use Rattle.rb_journal.specs.declared.journal.Journal.{Journal}
use Rattle.rb_journal.specs.declared.planned.Planned.{Planned}
use Rattle.rb_node.specs.Asked.{SeenAsked}
use Rattle.rb_run_site.specs.Journals.{journal_of}
use Rattle.rb_capi.specs.JournalSites.{IsOnDisk}

-- a crash while the noted calls are made leaves what it leaves at a moment of the planned log
pub over_calls : (old new : Planned) (before after : List (List ℕ)) (output : List ℕ)
    → faults_of (log_planned old) ≡ 0 → faults_of (log_planned new) ≡ 0 → log_left old ≡ [] → log_made new ≡ log_made old
    → LeavesOnly {H = Planned} (λ h. length (log_planned h)) (λ h. left_since (log_planned h)) old new
    (λ c d. AreEither before after (recovered c) × (d ≡ output))
    → LeavesOnly {H = List NotedCall} length left_since (log_made new) (log_left new ++ log_made new)
    (λ c d. AreEither before after (recovered c))
over_calls old new before after output fine fine_new none same run =
    let begins : log_planned old ≡ log_made new = old.agrees fine ∙ ap (λ l. l ++ log_made old) none ∙ sym same in
    let whole : log_planned new ≡ log_left new ++ log_made new = new.agrees fine_new in
    subst (λ l. LeavesOnly {H = List NotedCall} length left_since l (log_left new ++ log_made new)
    (λ c d. AreEither before after (recovered c))) begins
    (subst (λ l. LeavesOnly {H = List NotedCall} length left_since (log_planned old) l (λ c d. AreEither before after (recovered c))) whole
    (record {
      later = run.later;
      each = λ c d left. (run.each c d left).0;
      before = λ t c d le left. ⊎_elim (λ was. inl was) (λ now. inr now.0) (run.before t c d le left);
    }))

-- a settled journal is on the disk once the noted calls are made
pub on_disk : (journal : Journal Planned) (x : SeenAsked) (answer : List ℕ)
    → IsSettled {H = Planned} (λ h. faults_of (log_planned h) ≡ 0) (λ h. content_of (log_planned h)) (λ h. leaves (log_planned h)) journal
    → recovered (content_of (log_planned journal.host)) ≡ journal_of x
    → IsOnDisk (record { site = x; answer = answer; made = log_made journal.host; left = log_left journal.host })
on_disk journal x answer settled same =
    let p = journal.host in
    let whole : log_planned p ≡ log_left p ++ log_made p = p.agrees settled.usable in
    let at : content_of (log_planned p) ≡ at_rest (journal_of x) = settled.file ∙ ap at_rest same in
    record {
      file = ap content_of (sym whole) ∙ at;
      durable = subst (λ l. Only (at_rest (journal_of x)) (leaves l)) whole
          (subst (λ f. Only f (leaves (log_planned p))) at settled.durable);
    }
