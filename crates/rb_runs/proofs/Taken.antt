-- The effect of one line of an audit, or of a journal.
use Rattle.rb_runs.proofs.Words.{◌≡◌, ◌+◌, ℕ, zero, suc, false, List, [], ◌∷◌, ◌++◌, Some, Ok, refl, sym, ap, ◌∙◌, replicate, slice_get}
use Rattle.rb_runs.proofs.Words.{slice_set, Settings, Entry, Audited, HasMore, config_on, entry_on, is_blank, is_long, input_after}
use Rattle.rb_runs.proofs.Words.{input_from, with_entry, entry_of_site, next, with_lines}

-- the configuration's line: no site has an entry yet
pub takes_config : (n : ℕ) (l : List ℕ) (ls : List (List ℕ)) (s : Settings) → is_long l ≡ false → is_blank l ≡ false → config_on l ≡ Some s
    → input_from n (l ∷ ls) ≡ input_after s (replicate s.sites []) (n + 1) ls
takes_config n l ls s short some on = rw (short, some, on) refl

-- the line of an entry
pub takes_entry : (s : Settings) (hs : List (List Entry)) (n : ℕ) (l : List ℕ) (ls : List (List ℕ)) (x : ℕ × Entry) → is_long l ≡ false
    → is_blank l ≡ false → entry_on s l ≡ Some x → input_after s hs n (l ∷ ls) ≡ input_after s (with_entry x.0 x.1 hs) (n + 1) ls
takes_entry s hs n l ls x short some on = rw (short, some, on) refl

-- to set the history at a place to one with an entry more is to add the entry there
noted : (hs : List (List Entry)) (site : ℕ) (h : List Entry) (x : Entry) → slice_get hs site ≡ Some h
    → slice_set hs site (h ++ x ∷ []) ≡ with_entry site x hs
noted [] site h x there = cc
noted (g ∷ hs) zero h x there = let e : g ≡ h = cc in ap (λ f. (f ++ x ∷ []) ∷ hs) (sym e)
noted (g ∷ hs) (suc n) h x there = ap (λ gs. g ∷ gs) (noted hs n h x there)

-- the configuration's line was taken by an auditor that has no entry yet
pub config_taken : (a : Audited) (s : Settings) (l : List ℕ) → is_long l ≡ false → is_blank l ≡ false → config_on l ≡ Some s
    → a.settings ≡ s → a.histories ≡ replicate s.sites [] → (n : ℕ) (ls : List (List ℕ))
    → input_from n (l ∷ ls) ≡ input_after a.settings a.histories (n + 1) ls
config_taken a s l short some is settings none n ls = rw (short, some, is, settings, none) refl

-- the line of an entry was taken by the auditor a, which is then b
pub entry_taken : (a b : Audited) (x : ℕ × Entry) (l : List ℕ) → is_long l ≡ false → is_blank l ≡ false
    → entry_on a.settings l ≡ Some x → HasMore a b x.0 (x.1 ∷ []) → (n : ℕ) (ls : List (List ℕ))
    → input_after a.settings a.histories n (l ∷ ls) ≡ input_after b.settings b.histories (n + 1) ls
entry_taken a b x l short some is m n ls =
    takes_entry a.settings a.histories n l ls x short some is
    ∙ ap (λ hs. input_after a.settings hs (n + 1) ls) (sym (noted a.histories x.0 m.history x.1 m.there))
    ∙ ap (λ (o : Audited). input_after o.settings o.histories (n + 1) ls) (sym m.is)

-- an entry of a journal was taken by the auditor a, which is then b
pub entry_more : (a b : Audited) (site n : ℕ) (l : List ℕ) (ls : List (List ℕ)) (x : Entry) → entry_of_site a.settings site n l ≡ Ok x
    → HasMore a b site (x ∷ []) → with_lines a.settings site a.histories n (l ∷ ls) ≡ with_lines b.settings site b.histories (n + 1) ls
entry_more a b site n l ls x is m =
    ap (λ r. next r (λ y. with_lines a.settings site (with_entry site y a.histories) (n + 1) ls)) is
    ∙ ap (λ hs. with_lines a.settings site hs (n + 1) ls) (sym (noted a.histories site m.history x m.there))
    ∙ ap (λ (o : Audited). with_lines o.settings site o.histories (n + 1) ls) (sym m.is)
