use Rattle.judge_reader.proofs.ScalarTokens.{text_alone}
use Rattle.judge_reader.proofs.scalar.scalar_of_token.Goals as goal

pub returns-in-String : goal.returns-in-String
returns-in-String c = rw (c.in-String.is, c.scalar_of_text.ensures) (text_alone c.in-String.text.now)
