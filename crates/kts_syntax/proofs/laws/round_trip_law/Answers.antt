use Rattle.kts_syntax.specs.Shown.{ast_of}
use Rattle.kts_syntax.proofs.RoundTrips.{reads_back, same_forms}
use Rattle.kts_syntax.proofs.laws.round_trip_law.Goals as goal

pub returns : goal.returns
returns c = record {
  back = λ forms. reads_back (ast_of forms) forms.fit forms.shallow;
  only = λ a b text. same_forms (λ bytes t. (c.grammar_law.ensures.trees bytes t).0) (ast_of a) (ast_of b) (reads_back (ast_of a) a.fit a.shallow) (reads_back (ast_of b) b.fit b.shallow) text;
}
