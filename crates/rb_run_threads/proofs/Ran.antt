-- The histories of a run, and their text.
use Rattle.std.proofs.Common.{◌≡◌, ℕ, List, [], length, map, All, Option, Some, sym, ap, ◌∙◌, subst, append-nil}
use Rattle.std.specs.Prelude.{slice_get}
use Rattle.std.specs.Io.KnownBytes.{Appends}
use Rattle.std.proofs.lemmas.List.{length-map}
use Rattle.std.proofs.lemmas.Option.{get_or_from_slice_get, slice_get_within}
use Rattle.rb_money.specs.Settings.{Settings}
use Rattle.rb_site.specs.declared.entry.Entry.{Entry}
use Rattle.rb_site.specs.declared.report.SiteReport.{SiteReport}
use Rattle.rb_site.specs.Seen.{IsReplayed}
use Rattle.rb_site.proofs.Public.Lists.{map_back}
use Rattle.rb_branch.specs.Gathered.{IsClosedReport}
use Rattle.rb_run_threads.specs.Tellers.{TellersAt}
use Rattle.rb_lines.specs.Buffers.{Sends}
use Rattle.rb_lines.specs.Writes.{AppendsFront}
use Rattle.rb_run_threads.specs.Bank.{bank_of}
use Rattle.rb_run_threads.specs.Runs.{AreTellers, BeginsRun, IsRun}
use Rattle.rb_runs.specs.Texts.{text_of}

abbrev history_of : SiteReport → List Entry
history_of r = r.history.items

replayed : (s : Settings) (r : SiteReport) (k : ℕ) (h : List Entry) → IsClosedReport s r → r.me ≡ k → h ≡ history_of r
    → IsReplayed (record { settings = s; me = k; entries = h })
replayed s r k h closed here is =
    let P : ℕ → Type 0 = λ n. IsReplayed (record { settings = s; me = n; entries = history_of r }) in
    let Q : List Entry → Type 0 = λ es. IsReplayed (record { settings = s; me = k; entries = es }) in
    subst Q (sym is) (subst P here (record { within = closed.within; replays = closed.replays; room = closed.room }))

at_place : (s : Settings) (rs : List SiteReport) (k : ℕ) (r : SiteReport) → All (IsClosedReport s) rs → slice_get rs k ≡ Some r
    → IsClosedReport s r
at_place s rs k r closed at = subst (IsClosedReport s) (get_or_from_slice_get rs k r r at) (closed k r (slice_get_within rs k r at))

-- the sites' histories are those of the tellers
pub gathered : (s : Settings) (tellers seed : ℕ) (rs : List SiteReport) → length rs ≡ s.sites → All (IsClosedReport s) rs
    → ((k : ℕ) (r : SiteReport) → slice_get rs k ≡ Some r → (r.me ≡ k) × TellersAt seed tellers s.sites k r.history.items)
    → AreTellers s tellers seed (map history_of rs)
gathered s tellers seed rs all closed each = record {
  each_site = length-map rs history_of ∙ all;
  replays = λ k h at. let b = map_back history_of rs k h at in replayed s b.0 k h (at_place s rs k b.0 closed b.1) (each k b.0 b.1).0 b.2;
  tellers_at = λ k h at. let b = map_back history_of rs k h at in
      let P : List Entry → Type 0 = λ es. TellersAt seed tellers s.sites k es in
      subst P (sym b.2) (each k b.0 b.1).1;
}

-- a run of the bank by another name
of_bank : (s : Settings) (sites tellers seed : ℕ) (hs : List (List Entry)) → s ≡ bank_of sites → AreTellers s tellers seed hs
    → IsRun sites tellers seed (text_of s hs)
of_bank s sites tellers seed hs is are = record {
  histories = hs;
  are_tellers = subst (λ (t : Settings). AreTellers t tellers seed hs) is are;
  text_is = ap (λ (t : Settings). text_of t hs) is;
}

-- the whole text of a run was written
pub whole_run : (w w' : Option (List ℕ)) (s : Settings) (sites tellers seed : ℕ) (hs : List (List Entry)) → s ≡ bank_of sites
    → AreTellers s tellers seed hs → Sends w w' (text_of s hs) [] → (text : List ℕ) × Appends w w' text × IsRun sites tellers seed text
whole_run w w' s sites tellers seed hs is are sent =
    (sent.0, sent.1, subst (IsRun sites tellers seed) (sent.2 ∙ append-nil sent.0) (of_bank s sites tellers seed hs is are))

-- a prefix of the text of a run was written
pub part_of_run : (w w' : Option (List ℕ)) (s : Settings) (sites tellers seed : ℕ) (hs : List (List Entry)) → s ≡ bank_of sites
    → AreTellers s tellers seed hs → AppendsFront w w' (text_of s hs)
    → (text : List ℕ) × Appends w w' text × BeginsRun sites tellers seed text
part_of_run w w' s sites tellers seed hs is are front = (front.0, front.2, (text_of s hs, of_bank s sites tellers seed hs is are, front.1))
