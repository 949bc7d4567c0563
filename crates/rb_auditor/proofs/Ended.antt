-- If an order certifies what was read, each site is at the end of its history.
use Rattle.std.proofs.Common.{◌≡◌, ℕ, zero, suc, ◌+◌, ◌<◌, List, [], ◌∷◌, length, Some, refl, sym, ◌∙◌, arith, add-zero, zero-add}
use Rattle.std.specs.Prelude.{slice_get}
use Rattle.std.proofs.lemmas.List.{length-map}
use Rattle.rb_money.specs.Settings.{Settings}
use Rattle.rb_site.specs.declared.entry.Entry.{Entry}
use Rattle.rb_site.specs.declared.message.Message.{Message}
use Rattle.rb_site.specs.Seen.{SeenSite}
use Rattle.rb_site.proofs.Public.Lists.{map_back}
use Rattle.rb_auditor.specs.declared.notes.Notes.{Notes}
use Rattle.rb_auditor.specs.Certificates.{Certifies}
use Rattle.rb_auditor.specs.Findings.{IsReplay}
use Rattle.rb_auditor.specs.Kept.{AreAllNotes, AreNotes, entries_noted, histories_in}
use Rattle.rb_auditor.specs.Replays.{seen_at, ended_sites}
use Rattle.rb_auditor.proofs.Kept
use Rattle.rb_auditor.proofs.Refuting
use Rattle.rb_auditor.proofs.Replaying

-- a site whose history replays is the one at the end of it
at_end : (s : Settings) (i : ℕ) (x : SeenSite) (n : Notes) (ms : List Message) → AreNotes s i x n ms → IsReplay s i (entries_noted n)
    → x ≡ seen_at s i (entries_noted n)
at_end s i x n ms a replay =
    let whole : ¬ (length n.steps.items < length (entries_noted n)) =
    λ less. a.judged.wrong less (Replaying.replay-take s i (length n.steps.items + 1) (entries_noted n) replay) in
    Kept.site_is a (omega (arith, a.judged.within))

-- sites that are each at the end of its history are those of the histories
all_at_end : (s : Settings) (i : ℕ) (xs : List SeenSite) (hs : List (List Entry)) → length xs ≡ length hs
    → ((k : ℕ) (x : SeenSite) (h : List Entry) → slice_get xs k ≡ Some x → slice_get hs k ≡ Some h → x ≡ seen_at s (i + k) h)
    → xs ≡ ended_sites s i hs
all_at_end s i [] [] e each = refl
all_at_end s i [] (h ∷ hs) e each = absurd (omega arith)
all_at_end s i (x ∷ xs) [] e each = absurd (omega arith)
all_at_end s i (x ∷ xs) (h ∷ hs) e each =
    let rest = all_at_end s (i + 1) xs hs (omega arith) (λ k y g at there.
    let q : (i + 1) + k ≡ i + suc k = omega arith in rw q (each (suc k) y g at there)) in
    cc (each zero x h refl refl, add-zero i)

-- the sites after the histories that an order certifies
pub sites_ended : {s : Settings} {xs : List SeenSite} {ns : List Notes} {ms : List Message} {order : List ℕ}
    → AreAllNotes s xs ns ms → Certifies s (histories_in ns) order → xs ≡ ended_sites s 0 (histories_in ns)
sites_ended {s} {xs} {ns} {ms} {order} all certified =
    all_at_end s 0 xs (histories_in ns) (all.sites ∙ sym all.notes ∙ sym (length-map ns entries_noted)) (λ k x h at there.
    let (n, is, e) = map_back entries_noted ns k h there in
    let replay = Refuting.one_worlds_replay s (histories_in ns) k h (Refuting.one_worlds s (histories_in ns) order certified) there in
    cc (at_end s k x n ms (all.each k x n at is) (rw e at replay), e, zero-add k))
