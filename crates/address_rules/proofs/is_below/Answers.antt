-- By a byte of each: the laws `left_first` and `left_on` of Runs.
use Rattle.walks.proofs.Words.{◌≡◌, refl}
use Rattle.std.proofs.lemmas.Slice.Zip.{either_empty_from_Zip}
use Rattle.address_rules.proofs.Terms.{bytes_each}
use Rattle.address_rules.proofs.Runs as R
use Rattle.address_rules.proofs.is_below.Goals as goal

pub loop-x-init : goal.loop-x-init
loop-x-init c =
    let e : c.into_iter-x-iterator.result.a.rest.now ≡ c.args.a.now = search in
    let f : c.into_iter-x-iterator.result.b.rest.now ≡ c.args.b.now = search in
    rw (e, f) (R.left_whole c.args.a.now c.args.b.now (bytes_each c.args.a.now (λ i. (c.type_inv.a i).fits)) (bytes_each c.args.b.now (λ i. (c.type_inv.b i).fits)))

pub returns-then-x-y : goal.returns-then-x-y
returns-then-x-y c = R.left_first _ _ _ _ c.loop-x.invariant _ _ _ _ c.in-Some.ensures.steps.0 c.in-Some.ensures.steps.1 c.if-x-y.true _ refl

pub loop-x-preserved : goal.loop-x-preserved
loop-x-preserved c = R.left_on _ _ _ _ c.loop-x.invariant _ _ _ _ c.in-Some.ensures.steps.0 c.in-Some.ensures.steps.1 c.if-x-y.false

pub returns : goal.returns
returns c = R.left_none _ _ _ _ c.loop-x.invariant (either_empty_from_Zip _ c.next.new.self _ c.in-None.is c.next.ensures.steps)
