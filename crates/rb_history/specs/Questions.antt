-- Which question a line is, of those that a site is asked beside events.
use Rattle.std.specs.Prelude.{ℕ, ◌+◌, ◌==◌, Bool, false, List, Option, Some, None, bytes_eq, codes, unwrap_or, if◌then◌else◌}
use Rattle.std.specs.Prelude.{option_and_then, option_map}
use Rattle.serde_json.specs.Data.{Data}
use Rattle.serde_json.specs.Find.{get, as_str}
use Rattle.serde_json.specs.Read.{read}
use Rattle.rb_money.specs.declared.limits.TheConstants.{MOST_HISTORY}
use Rattle.rb_history.specs.declared.question.Question.{Question}
use Rattle.rb_history.specs.declared.question.Question.TheVariants.{About, Resend}
use Rattle.rb_history.specs.Values.{either, number_below, size_of}

-- the value is the word "site"
abbrev pub is_word_site : Data → Bool
is_word_site d = unwrap_or (option_map (λ word. bytes_eq word (codes "site")) (as_str d)) false

-- the question about the site, from the word for it
abbrev pub about_at : Data → Option Question
about_at d = if is_word_site d then Some About else None

-- the question that the values of its two keys, if they are there, come to: about the site, or for the messages of the
-- last entries, of which there may be as many as a history may have
abbrev pub question_asked : Option Data → Option Data → Option Question
question_asked about resend = either about about_at (option_and_then (λ n. option_map Resend (number_below (MOST_HISTORY + 1) n)) resend)

-- a question is an object of one member
abbrev pub question_of : Data → Option Question
question_of d = if size_of d == 1 then question_asked (get (codes "about") d) (get (codes "resend") d) else None

-- the question that a line is
abbrev pub question_of_line : List ℕ → Option Question
question_of_line line = option_and_then question_of (read line)
