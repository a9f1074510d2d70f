-- How many capsules a reader reports, whatever buffers are lent. Assumes nothing.
use Rattle.std.specs.Prelude.{Ok}
use Rattle.walks.proofs.Words.{◌≡◌, ap, ℕ, arith, Bool, false, List, [], length}
use Rattle.capsule_laws.proofs.Terms.{Role, Opening, Reader, Parts, parts, Call, Reply, run, parts_for, opening, open_of, reader_call, AllBytes, consumed_in, reports}
use Rattle.capsule_laws.proofs.{Appending.for_nil, Plain.read_plain, States.made_calls}

module _ (role : Role) (limit : ℕ) (draft addresses : Bool) (r : Reader) (e : open_of role limit draft addresses ≡ Ok r) (cs : List Call) (h : AllBytes cs) where
  abbrev op : Opening
  op = opening role limit draft addresses

  abbrev xs : List Reply
  xs = (run reader_call r cs).1

  -- one report for each capsule that is complete for the opening
  pub counted : length (reports xs) ≡ length (parts_for op (consumed_in cs xs)).capsules
  counted = let z : length (parts_for op []).capsules ≡ 0 = ap (λ (p : Parts). length p.capsules) (for_nil op) in omega (arith, (made_calls role limit draft addresses r e cs h).count)

  -- a reader that is not finished has read by the grammar
  pub unfinished_grammar : (run reader_call r cs).0.finished ≡ false → parts_for op (consumed_in cs xs) ≡ parts (consumed_in cs xs)
  unfinished_grammar f = read_plain op (consumed_in cs xs) ((made_calls role limit draft addresses r e cs h).short f (rw (for_nil op) tt))
