-- The type by its test, the length by `read_short`: `header-short` and `header-long` of Reaching.
use Rattle.walks.proofs.Words.{arith, ◌≡◌, sym, ap, ◌∙◌, drop}
use Rattle.planning.proofs.Terms.{read_short, short_exactly}
use Rattle.planning.proofs.{Planning.rest_of, Reaching.header-short, Reaching.header-long}
use Rattle.planning.proofs.short_header.Goals as goal
use Rattle.planning.proofs.short_header.Goals.{After-read_short}

length-read : (c : After-read_short) → c.read_short.result ≡ read_short (drop 1 c.args.piece.now)
length-read c = c.read_short.ensures ∙ ap read_short (rest_of c.args.piece.now 1)

pub overflow_add-result : goal.overflow_add-result
overflow_add-result c = omega (arith, ((short_exactly _ _ _).0 (sym (length-read (goal.at.overflow_add-result c).After-read_short) ∙ c.in_ok-size.was)).1)

pub returns-in_err-size : goal.returns-in_err-size
returns-in_err-size c = c.from_residual.ensures ∙ header-long _ c.if-piece-lt3.false _ c.from-ctype.ensures (omega arith) (sym (length-read (goal.at.returns-in_err-size c).After-read_short) ∙ c.in_err-size.was)

pub returns : goal.returns
returns c = header-short _ c.if-piece-lt3.false _ c.from-ctype.ensures (omega arith) (c.type_inv.piece 2).fits _ _ (sym (length-read (goal.at.returns c).After-read_short) ∙ c.in_ok-size.was)
