-- The first lines of a journal were replayed, and others are left.
use Rattle.std.proofs.Common.{◌≡◌, ◌+◌, ◌-◌, ◌≤◌, ◌==◌, ℕ, zero, suc, Bool, false, cond, List, [], ◌∷◌, ◌++◌, length, None}
use Rattle.std.proofs.Common.{refl, sym, ap, subst, ◌∙◌}
use Rattle.std.proofs.Common.{append_assoc, append-nil, length-append, arith}
use Rattle.std.specs.Prelude.{if◌then◌else◌}
use Rattle.std.proofs.lemmas.Bool.Decides.{nat_tests}
use Rattle.std.proofs.lemmas.List.{length-map, map-append}
use Rattle.rb_money.specs.Settings.{Settings}
use Rattle.rb_journal.specs.Lines.{IsBatch, recovered}
use Rattle.rb_site.specs.declared.entry.Entry.{Entry}
use Rattle.rb_site.specs.declared.event.Event.{Event}
use Rattle.rb_site.specs.Events.{ModelSite, after_event, after_events, is_full, reply_to, sent_at}
use Rattle.rb_site.specs.Histories.{events_of}
use Rattle.rb_site.specs.Seen.{SeenSite, entry, next_site, next_sites, state_of, stepped}
use Rattle.rb_site.proofs.Public.Seen.{settings-next, state-next}
use Rattle.rb_history.specs.Fits.{Each}
use Rattle.rb_history.specs.Ids.{AskedEntry}
use Rattle.rb_history.proofs.Public.Each.{each_both}
use Rattle.rb_node.specs.Answers.{SeenNode, sent_line}
use Rattle.rb_node.specs.Asked.{AreIdsOnce, SeenAsked, asked_state, entries_alone, known_of, without_ids, with_more}
use Rattle.rb_node.specs.Replays.{IsReadBack}
use Rattle.rb_node.specs.Resends.{resent}
use Rattle.rb_run_site.specs.Journals.{lines_of_entries}
use Rattle.rb_run_site.specs.Replays.{GoesOnBy, IsSplit, ReplaysLine}
use Rattle.rb_run_site.proofs.EntryLines.{fed}
use Rattle.rb_run_site.proofs.Ids.{once_more}

-- a site went on by the entries of the first lines, each read back from its line, and the rest are lines too; with the
-- number of the next line, how many entries are still to be skipped, and what the others sent
pub record Replaying (old now : SeenAsked) (lines rest : List ℕ) (skipped left number : ℕ)
    (sends sends_now : List ℕ) : Type 0 where
  pub entries : List AskedEntry
  pub goes_on : GoesOnBy old now entries
  pub lines_are : recovered lines ≡ lines_of_entries old.settings old.me entries ++ recovered rest
  pub read : Each (IsReadBack old.settings old.me) entries
  pub batch : IsBatch rest
  pub number_is : number ≡ 2 + length entries
  pub few : number + length rest ≤ 2 + length lines
  pub left_is : left ≡ skipped - length entries
  pub sends_are : sends_now ≡ sends ++ resent old.settings old.bank (asked_state old) skipped (entries_alone entries)

-- ---- one entry more

sites_push : (x : SeenSite) (es : List Event) (e : Event) → next_sites x (es ++ e ∷ []) ≡ next_site (next_sites x es) e
sites_push x [] e = refl
sites_push x (d ∷ es) e = sites_push (next_site x d) es e

-- a site after events is the model's
pub state_after : (x : SeenSite) (es : List Event) → state_of (next_sites x es) ≡ after_events x.settings (state_of x) es
state_after x [] = refl
state_after x (e ∷ es) =
    state_after (next_site x e) es
    ∙ ap (λ s. after_events s (state_of (next_site x e)) es) (settings-next x e)
    ∙ ap (λ t. after_events x.settings t es) (state-next x e)

-- a site whose history isn't full records an entry that is its answer
pub recorded_as : (x : SeenSite) (y : Entry) → is_full x.settings (state_of x) ≡ false → y.reply ≡ reply_to x.settings
    (state_of x) y.event
    → next_site x y.event ≡ record x { entries = x.entries ++ y ∷ [] }
recorded_as x y free reply =
    ap (λ b. cond b x (stepped x y.event)) free ∙ ap (λ r. record x { entries = x.entries ++ entry y.event r ∷ [] }) (sym reply)

-- the events of entries, and of one more
events_more : (xs : List AskedEntry) (x : AskedEntry)
    → events_of (entries_alone (xs ++ x ∷ [])) ≡ events_of (entries_alone xs) ++ x.entry.event ∷ []
events_more xs x = ap events_of (map-append (λ (y : AskedEntry). y.entry) xs (x ∷ []))
    ∙ map-append (λ (y : Entry). y.event) (entries_alone xs) (x.entry ∷ [])

goes_on_more : (old mid new : SeenAsked) (xs : List AskedEntry) (x : AskedEntry) → GoesOnBy old mid xs
    → is_full mid.settings (asked_state mid) ≡ false → known_of mid x.id ≡ None
    → x.entry.reply ≡ reply_to mid.settings (asked_state mid) x.entry.event → new ≡ with_more mid (x ∷ [])
    → GoesOnBy old new (xs ++ x ∷ [])
goes_on_more old mid new xs x g free unknown reply is = record {
  after = ap without_ids is
      ∙ ap (λ es. record { settings = mid.settings; me = mid.me; entries = es })
      (map-append (λ (y : AskedEntry). y.entry) mid.asked (x ∷ []))
      ∙ sym (recorded_as (without_ids mid) x.entry free reply) ∙ ap (λ y. next_site y x.entry.event) g.after
      ∙ sym (sites_push (without_ids old) (events_of (entries_alone xs)) x.entry.event)
      ∙ ap (next_sites (without_ids old)) (sym (events_more xs x));
  entries = is ∙ ap (λ y. with_more y (x ∷ [])) g.entries
      ∙ ap (λ es. record old { asked = es }) (append_assoc old.asked xs (x ∷ []));
  once = λ was. subst (λ (y : SeenAsked). AreIdsOnce y.asked) (sym is) (once_more mid x unknown (g.once was));
}

-- what was sent again, once an entry more is replayed
resent_more : (s : Settings) (bank : List ℕ) (t : ModelSite) (k : ℕ) (xs : List Entry) (x : Entry) → resent s bank t k (xs ++ x ∷ [])
    ≡ resent s bank t k xs ++ (if (k - length xs) == 0 then sent_line s bank (sent_at s (after_events s t (events_of xs)) x.event) else [])
resent_more s bank t zero [] x = append-nil _
resent_more s bank t (suc k) [] x =
    let more : (suc k - 0) ≡ suc k = omega arith in
    let some : (suc k == 0) ≡ false = grind (arith, nat_tests) in
    sym (ap (λ n. if n == 0 then sent_line s bank (sent_at s t x.event) else []) more
    ∙ ap (λ b. if b then sent_line s bank (sent_at s t x.event) else []) some)
resent_more s bank t zero (y ∷ xs) x =
    ap (λ l. sent_line s bank (sent_at s t y.event) ++ l) (resent_more s bank (after_event s t y.event) zero xs x)
    ∙ ap (λ n. sent_line s bank (sent_at s t y.event) ++ (resent s bank (after_event s t y.event) zero xs
    ++ (if n == 0 then sent_line s bank (sent_at s (after_events s (after_event s t y.event) (events_of xs)) x.event) else [])))
    (let less : 0 - length xs ≡ 0 - length (y ∷ xs) = omega arith in less)
    ∙ sym (append_assoc (sent_line s bank (sent_at s t y.event)) (resent s bank (after_event s t y.event) zero xs) _)
resent_more s bank t (suc k) (y ∷ xs) x = resent_more s bank (after_event s t y.event) k xs x
    ∙ ap (λ n. resent s bank (after_event s t y.event) k xs
    ++ (if n == 0 then sent_line s bank (sent_at s (after_events s (after_event s t y.event) (events_of xs)) x.event) else []))
    (let same : k - length xs ≡ suc k - length (y ∷ xs) = omega arith in same)

-- one line more is replayed
pub one_more : (old mid : SeenAsked) (new : SeenNode) (lines rest line later : List ℕ) (skipped left number : ℕ) (again : Bool)
    (sends mid_sends new_sends : List ℕ) → Replaying old mid lines rest skipped left number sends mid_sends → IsSplit rest line later
    → ReplaysLine mid new line again mid_sends new_sends → again ≡ (left == 0)
    → Replaying old new.site lines later skipped (left - 1) (number + 1) sends new_sends
one_more old mid new lines rest line later skipped left number again sends mid_sends new_sends i split r test =
    let x = r.entry in
    let xs = i.entries in
    let ys = entries_alone xs in
    let longer : length (xs ++ x ∷ []) ≡ length xs + 1 = length-append xs (x ∷ []) in
    let many : length ys ≡ length xs = length-map xs (λ (y : AskedEntry). y.entry) in
    let s : mid.settings ≡ old.settings = ap (λ (y : SeenAsked). y.settings) i.goes_on.entries in
    let m : mid.me ≡ old.me = ap (λ (y : SeenAsked). y.me) i.goes_on.entries in
    let k : mid.bank ≡ old.bank = ap (λ (y : SeenAsked). y.bank) i.goes_on.entries in
    let t : asked_state mid ≡ after_events old.settings (asked_state old) (events_of ys) =
    ap state_of i.goes_on.after ∙ state_after (without_ids old) (events_of ys) in
    let word : List ℕ = if again then sent_line mid.settings mid.bank (sent_at mid.settings (asked_state mid) x.entry.event) else [] in
    let left_is : left ≡ skipped - length ys = i.left_is ∙ ap (λ n. skipped - n) (sym many) in
    let said : (if again then sent_line mid.settings mid.bank (sent_at mid.settings (asked_state mid) x.entry.event) else [])
    ≡ (if (skipped - length ys) == 0
    then sent_line old.settings old.bank
    (sent_at old.settings (after_events old.settings (asked_state old) (events_of ys)) x.entry.event) else []) =
    ap (λ b. if b then sent_line mid.settings mid.bank (sent_at mid.settings (asked_state mid) x.entry.event) else [])
    (test ∙ ap (λ n. n == 0) left_is)
    ∙ ap (λ c. if (skipped - length ys) == 0 then sent_line c mid.bank (sent_at c (asked_state mid) x.entry.event) else []) s
    ∙ ap (λ b. if (skipped - length ys) == 0 then sent_line old.settings b (sent_at old.settings (asked_state mid) x.entry.event) else []) k
    ∙ ap (λ u. if (skipped - length ys) == 0 then sent_line old.settings old.bank (sent_at old.settings u x.entry.event) else []) t in
    record {
      entries = xs ++ x ∷ [];
      goes_on = goes_on_more old mid new.site xs x i.goes_on r.replayed.free r.replayed.unknown r.replayed.reply r.replayed.site;
      lines_are = i.lines_are
          ∙ ap (λ ls. lines_of_entries old.settings old.me xs ++ ls) (split.lines_are
          ∙ ap (λ l. (l ++ 10 ∷ []) ∷ recovered later) r.line_is
          ∙ ap (λ c. fed c mid.me x ∷ recovered later) s ∙ ap (λ n. fed old.settings n x ∷ recovered later) m)
          ∙ sym (append_assoc (lines_of_entries old.settings old.me xs) (fed old.settings old.me x ∷ []) (recovered later))
          ∙ ap (λ ls. ls ++ recovered later) (sym (map-append (fed old.settings old.me) xs (x ∷ [])));
      read = each_both (IsReadBack old.settings old.me) xs (x ∷ []) i.read
          (subst (λ n. IsReadBack old.settings n x) m (subst (λ c. IsReadBack c mid.me x) s r.read), tt);
      batch = split.batch;
      number_is = omega (arith, i.number_is, longer);
      few = omega (arith, i.few, split.shorter);
      left_is = omega (arith, i.left_is, longer);
      sends_are = r.sends_are ∙ ap (λ l. l ++ word) i.sends_are
          ∙ append_assoc sends (resent old.settings old.bank (asked_state old) skipped ys) word
          ∙ ap (λ l. sends ++ (resent old.settings old.bank (asked_state old) skipped ys ++ l)) said
          ∙ ap (λ l. sends ++ l) (sym (resent_more old.settings old.bank (asked_state old) skipped ys x.entry))
          ∙ ap (λ es. sends ++ resent old.settings old.bank (asked_state old) skipped es)
          (sym (map-append (λ (y : AskedEntry). y.entry) xs (x ∷ [])));
    }
