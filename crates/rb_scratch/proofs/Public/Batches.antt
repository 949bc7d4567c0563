-- Batches, operation by operation.
use Rattle.std.proofs.Common.{◌≡◌, ℕ, ◌+◌, List, [], ◌∷◌, ◌++◌, length, refl, ap, sym, ◌∙◌, arith, append_assoc}
use Rattle.std.specs.Prelude.{Result, Ok, Err}
use Rattle.std.proofs.lemmas.List.{append-nil}
use Rattle.rb_money.specs.Refusals.{and_then}
use Rattle.rb_money.specs.Settings.{Settings}
use Rattle.rb_money.specs.declared.refusal.Refusal.{Refusal}
use Rattle.rb_money.specs.declared.refusal.Refusal.TheVariants.{BatchRefused}
use Rattle.rb_shadow.specs.declared.shadow.Shadow.{Shadow}
use Rattle.rb_scratch.specs.Batches.{made_in_batch, batch_of, cause_of}
use Rattle.rb_scratch.specs.declared.request.Request.{Request}
use Rattle.rb_scratch.specs.declared.run_fault.RunFault.{RunFault}
use Rattle.rb_token.specs.Token.{Token}
use Rattle.rb_undo.specs.declared.parts.UndoParts.{UndoParts}
use Rattle.rb_ledger.specs.Book.{Book}
use Rattle.rb_ledger.proofs.Public.Records
use Rattle.rb_scratch.specs.Tried.{IsTried}

-- ---- a batch, request by request

-- what comes of a request of this index, with what the rest makes after it
abbrev then_rest : ℕ → Result Shadow RunFault → (Shadow → Result (List Shadow) Refusal) → Result (List Shadow) Refusal
then_rest index q rest = and_then (λ fault. Err (BatchRefused index (cause_of fault))) q (λ v. and_then Err (rest v) (λ vs. Ok (v ∷ vs)))

-- what a batch makes is what its first request makes and what the rest makes after that
batch_cases : (s : Settings) (me : ℕ) (us : List Shadow) (token : Token) (index : ℕ) (r : Request) (rs : List Request) (vs : List Shadow) →
    batch_of s me us token index (r ∷ rs) ≡ Ok vs
    → (v : Shadow) × (ws : List Shadow) × (made_in_batch s me us token r ≡ Ok v)
    × (batch_of s me (us ++ v ∷ []) token (index + 1) rs ≡ Ok ws) × (vs ≡ v ∷ ws)
unfolding batch_of
batch_cases s me us token index r rs vs e = at (made_in_batch s me us token r) refl e
  where
    first : (v : Shadow) → made_in_batch s me us token r ≡ Ok v → (q : Result (List Shadow) Refusal) →
        batch_of s me (us ++ v ∷ []) token (index + 1) rs ≡ q → and_then Err q (λ ws. Ok (v ∷ ws)) ≡ Ok vs
        → (v : Shadow) × (ws : List Shadow) × (made_in_batch s me us token r ≡ Ok v)
        × (batch_of s me (us ++ v ∷ []) token (index + 1) rs ≡ Ok ws) × (vs ≡ v ∷ ws)
    first v made (Ok ws) k h = (v, ws, made, k, (let a : vs ≡ v ∷ ws = cc in a))
    first v made (Err why) k h = cc

    at : (q : Result Shadow RunFault) → made_in_batch s me us token r ≡ q →
        then_rest index q (λ v. batch_of s me (us ++ v ∷ []) token (index + 1) rs) ≡ Ok vs
        → (v : Shadow) × (ws : List Shadow) × (made_in_batch s me us token r ≡ Ok v)
        × (batch_of s me (us ++ v ∷ []) token (index + 1) rs ≡ Ok ws) × (vs ≡ v ∷ ws)
    at (Ok v) made h = first v made (batch_of s me (us ++ v ∷ []) token (index + 1) rs) refl h
    at (Err fault) made h = cc

-- one request more makes one operation more
pub batch_more : (s : Settings) (me : ℕ) (us : List Shadow) (token : Token) (index : ℕ) (rs : List Request) (r : Request) (vs : List Shadow)
    (v : Shadow) → batch_of s me us token index rs ≡ Ok vs
    → made_in_batch s me (us ++ vs) token r ≡ Ok v → batch_of s me us token index (rs ++ r ∷ []) ≡ Ok (vs ++ v ∷ [])
unfolding batch_of
batch_more s me us token index [] r vs v e made =
    let none : vs ≡ [] = cc in
    let here : made_in_batch s me us token r ≡ Ok v = ap (λ ws. made_in_batch s me ws token r) (sym (append-nil us)
    ∙ ap (λ ws. us ++ ws) (sym none)) ∙ made in
    ap (λ q. then_rest index q (λ v. Ok [])) here ∙ ap (λ ws. Ok (ws ++ v ∷ [])) (sym none)
batch_more s me us token index (q ∷ rs) r vs v e made =
    let (u, ws, first, rest, is) = batch_cases s me us token index q rs vs e in
    let later : made_in_batch s me ((us ++ u ∷ []) ++ ws) token r ≡ Ok v =
    ap (λ xs. made_in_batch s me xs token r) (append_assoc us (u ∷ []) ws ∙ ap (λ xs. us ++ xs) (sym is)) ∙ made in
    ap (λ o. then_rest index o (λ v. batch_of s me (us ++ v ∷ []) token (index + 1) (rs ++ r ∷ []))) first
    ∙ ap (λ q. and_then Err q (λ ws. Ok (u ∷ ws))) (batch_more s me (us ++ u ∷ []) token (index + 1) rs r ws v rest later)
    ∙ ap (λ xs. Ok (xs ++ v ∷ [])) (sym is)

-- a request that makes nothing stops the batch, by its index
pub batch_stopped : (s : Settings) (me : ℕ) (us : List Shadow) (token : Token) (index : ℕ) (rs : List Request) (r : Request)
    (more : List Request) (vs : List Shadow) (fault : RunFault) → batch_of s me us token index rs ≡ Ok vs
    → made_in_batch s me (us ++ vs) token r ≡ Err fault → batch_of s me us token index (rs ++ r ∷ more)
    ≡ Err (BatchRefused (index + length rs) (cause_of fault))
unfolding batch_of
batch_stopped s me us token index [] r more vs fault e made =
    let none : vs ≡ [] = cc in
    let here : made_in_batch s me us token r ≡ Err fault = ap (λ ws. made_in_batch s me ws token r) (sym (append-nil us)
    ∙ ap (λ ws. us ++ ws) (sym none)) ∙ made in
    let at : index ≡ index + length {A = Request} [] = omega arith in
    ap (λ q. then_rest index q (λ v. batch_of s me (us ++ v ∷ []) token (index + 1) more)) here
    ∙ ap (λ n. Err (BatchRefused n (cause_of fault))) at
batch_stopped s me us token index (q ∷ rs) r more vs fault e made =
    let (u, ws, first, rest, is) = batch_cases s me us token index q rs vs e in
    let later : made_in_batch s me ((us ++ u ∷ []) ++ ws) token r ≡ Err fault =
    ap (λ xs. made_in_batch s me xs token r) (append_assoc us (u ∷ []) ws ∙ ap (λ xs. us ++ xs) (sym is)) ∙ made in
    let at : index + 1 + length rs ≡ index + length (q ∷ rs) = omega arith in
    ap (λ o. then_rest index o (λ v. batch_of s me (us ++ v ∷ []) token (index + 1) (rs ++ r ∷ more))) first
    ∙ ap (λ q. and_then Err q (λ ws. Ok (u ∷ ws))) (batch_stopped s me (us ++ u ∷ []) token (index + 1) rs r more ws fault rest later)
    ∙ ap (λ n. Err (BatchRefused n (cause_of fault))) at

-- there are as many records as operations
pub tried_length : (base made : List Shadow) (book : Book) (records : List UndoParts) → IsTried base made book records →
    length records ≡ length made
tried_length base made book records tried = ap length tried.records ∙ Records.logged-length book.settings base made
