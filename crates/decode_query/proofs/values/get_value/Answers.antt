use Rattle.std.proofs.Common.{◌≡◌, ℕ, Bool, List, ap, ◌∙◌, map}
use Rattle.gl_plain.specs.subjects.Links.{is_one_of}
use Rattle.gl_plain.specs.subjects.Values as d
use Rattle.decode_query.proofs.values.get_value.Goals as goal

pub returns : goal.returns
returns c = λ s.
    c.in_ok-formed.ensures ∙ ap (λ (floats : Bool). map (d.word_in_form c.args.form floats) c.as_slice.result.now) c.is_float_name.ensures
    ∙ ap (λ (words : List ℕ). map (d.word_in_form c.args.form (is_one_of c.args.pname d.float_names)) words) (c.as_slice.ensures.value ∙ c.state_words-words.ensures s)
