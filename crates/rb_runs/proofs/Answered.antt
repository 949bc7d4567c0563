-- Answers of closing the books.
use Rattle.rb_runs.proofs.Words.{◌≡◌, ◌≤◌, ◌<◌, ℕ, ◌+◌, List, [], ◌∷◌, length, Bool, true, false, None, Some, Ok, Err, IfOk, Result, Vec}
use Rattle.rb_runs.proofs.Words.{get_or, ap, sym, subst, refl, ◌∙◌, map, arith, inr, slice_get, length-map-range_with_len, slice_get_read}
use Rattle.rb_runs.proofs.Words.{slice_get_within, cents, config_fault, IsConfigured, Settings, OpName, Shadow, bal, MOST_CENTS, open_json}
use Rattle.rb_runs.proofs.Words.{verdict_line, Entry, AreOneWorlds, balances_of, SeenSite, state_of, map_at, map_back, ClosedBalancesAgree}
use Rattle.rb_runs.proofs.Words.{OpenListsAreLacking, MayBeClosed, IsFirstAbove, NextBank, StartsNext, ReportsBalances, ReportsClosing}
use Rattle.rb_runs.proofs.Words.{ReportsOpen, applied_by, applied_from, applied_in, input_at, lacked, next_accounts, sites_of_next}
use Rattle.rb_runs.proofs.Words.{next_with, config_line, Input}
use Rattle.std.specs.declared.alloc.Global.{Global}
use Rattle.std.specs.declared.alloc.AllocError.{AllocError}
use Rattle.rb_auditor.specs.Certificates.{Certifies}
use Rattle.rb_auditor.specs.Replays.{ended_sites}
use Rattle.rb_runs.proofs.Carried.{same_balances}

-- ---- sites at the end of histories

-- what they have applied
pub applied_is : (s : Settings) (i : ℕ) (hs : List (List Entry)) → applied_by (ended_sites s i hs) ≡ applied_from s i hs
applied_is s i [] = refl
applied_is s i (h ∷ hs) =
    ap (λ uss. (state_of (record { settings = s; me = i; entries = h })).ops ∷ uss) (applied_is s (i + 1) hs)

-- their histories
pub histories_are : (s : Settings) (i : ℕ) (hs : List (List Entry)) → map (λ (x : SeenSite). x.entries) (ended_sites s i hs) ≡ hs
histories_are s i [] = refl
histories_are s i (h ∷ hs) = ap (λ gs. h ∷ gs) (histories_are s (i + 1) hs)

-- what each lacks, as sites and as what they have applied
lists_are : (s : Settings) (i : ℕ) (hs : List (List Entry)) (uss : List (List Shadow))
    → map (λ (x : SeenSite). lacked x.settings.sites uss (state_of x).ops) (ended_sites s i hs)
    ≡ map (lacked s.sites uss) (applied_from s i hs)
lists_are s i [] uss = refl
lists_are s i (h ∷ hs) uss =
    ap (λ ls. lacked s.sites uss (state_of (record { settings = s; me = i; entries = h })).ops ∷ ls) (lists_are s (i + 1) hs uss)

-- what each lacks, of sites that are at the end of their histories
pub lists_of_ended : (s : Settings) (xs : List SeenSite) → xs ≡ ended_sites s 0 (input_at s xs).histories
    → map (λ (x : SeenSite). lacked x.settings.sites (applied_by xs) (state_of x).ops) xs
    ≡ map (lacked s.sites (applied_in (input_at s xs))) (applied_in (input_at s xs))
lists_of_ended s xs e =
    let hs = (input_at s xs).histories in
    ap (λ ys. map (λ (x : SeenSite). lacked x.settings.sites (applied_by ys) (state_of x).ops) ys) e
    ∙ ap (λ uss. map (λ (x : SeenSite). lacked x.settings.sites uss (state_of x).ops) (ended_sites s 0 hs)) (applied_is s 0 hs)
    ∙ lists_are s 0 hs (applied_in (input_at s xs))

-- what the first has applied is the first of what is applied
pub first_applied : (s : Settings) (xs : List SeenSite) (x : SeenSite) → xs ≡ ended_sites s 0 (input_at s xs).histories
    → slice_get xs 0 ≡ Some x → slice_get (applied_in (input_at s xs)) 0 ≡ Some (state_of x).ops
first_applied s xs x e at =
    ap (λ uss. slice_get uss 0) (sym (ap applied_by e ∙ applied_is s 0 (input_at s xs).histories))
    ∙ map_at (λ (y : SeenSite). (state_of y).ops) xs 0 x at

-- ---- open books

-- lists of which one has a name are those of an open bank
pub open_reported : OpenListsAreLacking → (x : Input) (lists : List (List OpName)) (line : List ℕ) → IsConfigured x.settings
    → AreOneWorlds x.settings x.histories → lists ≡ map (lacked x.settings.sites (applied_in x)) (applied_in x)
    → (((i : ℕ) (list : List OpName) → slice_get lists i ≡ Some list → list ≡ []) → ⊥) → line ≡ verdict_line (open_json lists)
    → ReportsOpen x line
open_reported law x lists line c one is some written = record {
  one = one;
  is_open = λ closed. some (λ i list at.
      let (us, there, same) = map_back (lacked x.settings.sites (applied_in x)) (applied_in x) i list
      (ap (λ ls. slice_get ls i) (sym is) ∙ at) in
      same ∙ (law x c one).none.0 closed i us there);
  line_is = written ∙ ap (λ ls. verdict_line (open_json ls)) is;
}

-- ---- closed books

-- if no list has a name the books may be closed
pub closed_reported : OpenListsAreLacking → (x : Input) (lists : List (List OpName)) → IsConfigured x.settings
    → AreOneWorlds x.settings x.histories → lists ≡ map (lacked x.settings.sites (applied_in x)) (applied_in x)
    → ((i : ℕ) (list : List OpName) → slice_get lists i ≡ Some list → list ≡ []) → MayBeClosed (applied_in x)
closed_reported law x lists c one is none = (law x c one).none.1 (λ i us there.
    none i (lacked x.settings.sites (applied_in x) us) (ap (λ ls. slice_get ls i) is
    ∙ map_at (lacked x.settings.sites (applied_in x)) (applied_in x) i us there))

-- the line by what the first site has applied is that by what any has
pub balances_reported : ClosedBalancesAgree → (x : Input) (ask : NextBank) (found : Bool) (us : List Shadow) (line : List ℕ)
    → IsConfigured x.settings → AreOneWorlds x.settings x.histories → MayBeClosed (applied_in x) → slice_get (applied_in x) 0 ≡ Some us
    → ReportsBalances ask found x.settings us line → ReportsClosing ask found x line
balances_reported law x ask true us line c one closed at r = record {
  one = one;
  closed = closed;
  line_is = λ i vs there. r.line_is ∙ ap (λ b. config_line (next_with x.settings b ask)) (same i vs there);
  few = λ i vs there j n here. r.few j n (ap (λ b. slice_get b j) (same i vs there) ∙ here);
}
  where
    same : (i : ℕ) (vs : List Shadow) → slice_get (applied_in x) i ≡ Some vs → balances_of x.settings us ≡ balances_of x.settings vs
    same i vs there = same_balances x.settings us vs ((law x c one closed).agree 0 i us vs at there)
balances_reported law x ask false us line c one closed at r = inr (inr (record {
  one = one;
  closed = closed;
  place = r.place;
  name = r.name;
  named = r.named;
  first = λ i vs there. subst (λ b. IsFirstAbove b r.place)
      (same_balances x.settings us vs ((law x c one closed).agree 0 i us vs at there)) r.first;
  line_is = r.line_is;
}))

-- ---- the balances

-- there is a balance for each account
pub count_is : (s : Settings) (us : List Shadow) (bs : List ℕ) → IsConfigured s → bs ≡ balances_of s us → length bs ≡ length s.names
count_is s us bs c e =
    ap length e ∙ length-map-range_with_len (λ i. cents (bal s us (record { 0 = i }))) 0 (length s.starts) ∙ c.starts_of_all

-- what is above is the balance of an account
pub is_account : (s : Settings) (us : List Shadow) (bs ds : List ℕ) (place : ℕ) → IsConfigured s → bs ≡ balances_of s us → ds ≡ bs
    → IsFirstAbove ds place → place < length s.names
is_account s us bs ds place c e d f =
    let within : place < length ds = slice_get_within ds place f.balance f.there in
    let same : length ds ≡ length bs = ap length d in
    let many : length bs ≡ length s.names = count_is s us bs c e in
    omega (arith, within, same, many)

-- the line of the next configuration
pub started_next : (ask : NextBank) (s t next : Settings) (us : List Shadow) (bs ds line : List ℕ) → t ≡ s → bs ≡ balances_of s us
    → ds ≡ bs → ((i n : ℕ) → slice_get ds i ≡ Some n → n ≤ MOST_CENTS) → next ≡ next_with t ds ask → line ≡ config_line next
    → StartsNext ask s us line
started_next ask s t next us bs ds line e b d few is written = record {
  few = λ j n at. few j n (ap (λ x. slice_get x j) (d ∙ b) ∙ at);
  line_is = written ∙ ap config_line (is ∙ ap (λ u. next_with u ds ask) e ∙ ap (λ x. next_with s x ask) (d ∙ b));
}

-- ---- the sites at the end of an audit

-- these are the sites at the end of one world's histories, and this is the first
pub record IsFirstOf (s : Settings) (hs : List (List Entry)) (xs : List SeenSite) (x : SeenSite) : Type 0 where
  pub settings : x.settings ≡ s
  pub histories : (input_at x.settings xs).histories ≡ hs
  pub ended : xs ≡ ended_sites x.settings 0 (input_at x.settings xs).histories
  pub one : AreOneWorlds x.settings (input_at x.settings xs).histories
  pub there : slice_get xs 0 ≡ Some x

first_settings : (s : Settings) (hs : List (List Entry)) (x : SeenSite) → slice_get (ended_sites s 0 hs) 0 ≡ Some x → x.settings ≡ s
first_settings s [] x at = cc
first_settings s (h ∷ hs) x at =
    let is : record { settings = s; me = 0; entries = h } ≡ x = cc in
    sym (ap (λ (y : SeenSite). y.settings) is)

-- the first of the sites that an audit ends with
pub first_of : (s : Settings) (hs : List (List Entry)) (order : List ℕ) (seen xs : List SeenSite) (x : SeenSite) → seen ≡ xs
    → xs ≡ ended_sites s 0 hs → length xs ≡ s.sites → IsConfigured s → Certifies s hs order → x ≡ get_or xs 0 x → IsFirstOf s hs seen x
first_of s hs order seen xs x e is many c certified at = record {
  settings = settings;
  histories = histories;
  ended = e ∙ is ∙ ap (λ t. ended_sites t 0 hs) (sym settings) ∙ ap (ended_sites x.settings 0) (sym histories);
  one = subst (λ gs. AreOneWorlds x.settings gs) (sym histories) (subst (λ t. AreOneWorlds t hs) (sym settings)
      (record { events = certified.events; own = certified.own; gives = certified.gives }));
  there = ap (λ ys. slice_get ys 0) e ∙ there;
}
  where
    some : 0 < length xs
    some = let two : 2 ≤ s.sites = c.some_sites in omega (arith, many, two)

    there : slice_get xs 0 ≡ Some x
    there = slice_get_read xs (length xs) 0 x refl some at

    settings : x.settings ≡ s
    settings = first_settings s hs x (ap (λ ys. slice_get ys 0) (sym is) ∙ there)

    histories : map (λ (y : SeenSite). y.entries) seen ≡ hs
    histories = ap (map (λ (y : SeenSite). y.entries)) (e ∙ is) ∙ histories_are s 0 hs

-- what is asked of it is proper
pub proper_of : (ask : NextBank) (s t : Settings) → t ≡ s
    → config_fault (sites_of_next s ask.sites) (next_accounts s s.starts ask) s.limits ≡ None
    → config_fault (sites_of_next t ask.sites) (next_accounts t t.starts ask) t.limits ≡ None
proper_of ask s t e h =
    ap (λ (u : Settings). config_fault (sites_of_next u ask.sites) (next_accounts u u.starts ask) u.limits) e ∙ h

-- the line is that of what was audited
pub closing_found : (ask : NextBank) (s t : Settings) (hs gs : List (List Entry)) (r : Result (Bool × Vec ℕ Global) AllocError) → t ≡ s
    → gs ≡ hs → IfOk r (λ found. ReportsClosing ask found.0 (record { settings = t; histories = gs }) found.1.items)
    → IfOk r (λ found. ReportsClosing ask found.0 (record { settings = s; histories = hs }) found.1.items)
closing_found ask s t hs gs r e f h =
    subst (λ u. IfOk r (λ found. ReportsClosing ask found.0 (record { settings = u; histories = hs }) found.1.items)) e
    (subst (λ ks. IfOk r (λ found. ReportsClosing ask found.0 (record { settings = t; histories = ks }) found.1.items)) f h)

-- the line of a ledger's balances is that of closed books
pub on_found : (ask : NextBank) (x : Input) (t : Settings) (vs us : List Shadow) (r : Result (Bool × Vec ℕ Global) AllocError)
    → ClosedBalancesAgree → IsConfigured x.settings → AreOneWorlds x.settings x.histories → MayBeClosed (applied_in x)
    → slice_get (applied_in x) 0 ≡ Some us → t ≡ x.settings → vs ≡ us
    → IfOk r (λ found. ReportsBalances ask found.0 t vs found.1.items)
    → IfOk r (λ found. ReportsClosing ask found.0 x found.1.items)
on_found ask x t vs us (Ok found) law c one closed at e f r =
    balances_reported law x ask found.0 us found.1.items c one closed at
    (subst (λ ws. ReportsBalances ask found.0 x.settings ws found.1.items) f
    (subst (λ u. ReportsBalances ask found.0 u vs found.1.items) e r))
on_found ask x t vs us (Err refused) law c one closed at e f r = tt
