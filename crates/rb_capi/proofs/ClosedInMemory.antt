-- How closing the books from memory to memory ends, by how the run ended.
use Rattle.std.proofs.Common.{◌≡◌, ◌≢◌, ◌∙◌, ℕ, Bool, List, [], ◌++◌, length, map, take, sum, Some, Result, Ok, Err, ap, refl, subst, sym}
use Rattle.rb_lines.specs.Lines.{lines_of}
use Rattle.rb_runs.specs.Books.{NextBank}
use Rattle.rb_runs.specs.Closes.{ClosesAs}
use Rattle.rb_runs.specs.declared.books.close_fault.CloseFault.{CloseFault}
use Rattle.rb_runs.specs.declared.books.close_fault.CloseFault.TheVariants.{Added, Unread, Journal, Write, OutOfMemory}
use Rattle.rb_capi.specs.Close.{CloseCall, IsClosedInMemory, MayBeAsked, RunsClose, closed_in_memory, closed_text, name_on, next_asked}
use Rattle.rb_capi.specs.Close.{pieces_of, sites_asked}

-- a fault of reading or writing is one of memory
pub ends_in_memory : (ask : NextBank) (n : ℕ) (files : List (List ℕ)) (ran : Result Bool CloseFault) (text : List ℕ)
    → ClosesAs ask n files ran text
    → ClosesAs ask n files (closed_in_memory ran) (closed_text ran text) × IsClosedInMemory (closed_in_memory ran)
ends_in_memory ask n files (Ok closed) text ended = (ended, record { no_read = λ site e. absurd (cc e); no_write = λ e. absurd (cc e) })
ends_in_memory ask n files (Err (Added why)) text ended =
    (ended, record { no_read = λ site e. absurd (cc e); no_write = λ e. absurd (cc e) })
ends_in_memory ask n files (Err (Unread i)) text ended = (refl, record { no_read = λ site e. absurd (cc e); no_write = λ e. absurd (cc e) })
ends_in_memory ask n files (Err (Journal i why)) text ended =
    (ended, record { no_read = λ site e. absurd (cc e); no_write = λ e. absurd (cc e) })
ends_in_memory ask n files (Err Write) text ended = (refl, record { no_read = λ site e. absurd (cc e); no_write = λ e. absurd (cc e) })
ends_in_memory ask n files (Err OutOfMemory) text ended =
    (ended, record { no_read = λ site e. absurd (cc e); no_write = λ e. absurd (cc e) })

-- the run is that of the call, whose files were known
pub runs_close : (c : CloseCall) (ask : NextBank) (read : ℕ) (ls bytes : List ℕ) (ran r : Result Bool CloseFault)
    (text before items out : List ℕ) → MayBeAsked c.sites → c.lengths ≢ [] → sum c.lengths ≡ length c.journals
    → ask.sites ≡ sites_asked c.sites → ask.added ≡ map name_on (lines_of c.names)
    → Some (pieces_of ls bytes) ≡ Some (pieces_of c.lengths c.journals)
    → ClosesAs ask (length c.lengths) (take read (pieces_of ls bytes)) ran text
    → before ≡ [] → items ≡ before ++ text → r ≡ closed_in_memory ran → out ≡ closed_text ran items → RunsClose c r out
runs_close c ask read ls bytes ran r text before items out sites some fit asks adds known ended empty wrote is out_is =
    let n = length c.lengths in
    let asked : ask ≡ next_asked c = λ k. record { sites = asks k; added = adds k } in
    let same : take read (pieces_of ls bytes) ≡ take read (pieces_of c.lengths c.journals) = ap (take read) (cc known) in
    let mine = subst (λ files. ClosesAs (next_asked c) n files ran text) same
    (subst (λ a. ClosesAs a n (take read (pieces_of ls bytes)) ran text) asked ended) in
    let done = ends_in_memory (next_asked c) n (take read (pieces_of c.lengths c.journals)) ran text mine in
    let text_is : closed_text ran text ≡ out = ap (closed_text ran) (sym (wrote ∙ ap (λ l. l ++ text) empty)) ∙ sym out_is in
    record {
      sites = sites;
      some = some;
      fit = fit;
      read = read;
      ran = subst (λ t. ClosesAs (next_asked c) n (take read (pieces_of c.lengths c.journals)) r t) text_is
          (subst (λ q. ClosesAs (next_asked c) n (take read (pieces_of c.lengths c.journals)) q (closed_text ran text)) (sym is) done.0);
      in_memory = subst IsClosedInMemory (sym is) done.1;
    }
