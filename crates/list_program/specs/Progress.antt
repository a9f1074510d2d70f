-- How far a listing has come, and what its steps do: contracts inside the crate.
use Rattle.opening.specs.declared.Report.{Report}
use Rattle.capsule.specs.Reader.{taking}
use Rattle.std.specs.Prelude.{◌≡◌, ℕ, ◌+◌, ◌-◌, ◌≤◌, Bool, true, false, List, [], ◌++◌, length, take, drop, Option, Some, None, Ok}
use Rattle.std.proofs.lemmas.List.Edits.{sets}
use Rattle.opening.specs.declared.Role.TheVariants.{Endpoint}
use Rattle.capsule.specs.declared.reader.Reader.{Reader}
use Rattle.capsule.specs.Calls.{Lent, lent}
use Rattle.capsule.specs.Reader.{opening, verdict_of, feeding, feed_of}
use Rattle.text_lines.specs.Lines.{report_line, longest}
use Rattle.list_program.specs.declared.Progress.{Progress}
use Rattle.list_program.specs.declared.Buffers.{Buffers}

abbrev pub progress_of : Reader → ℕ → ℕ → ℕ → Bool → Progress
progress_of reader have used held going = record { reader = reader; have = have; used = used; held = held; going = going }

-- what readers are lent
abbrev pub lent_of : Buffers → Lent
lent_of b = lent b.gathering b.addresses b.output

-- the line of what ended in a feeding
unfoldable pub line_in : Option Report → List ℕ
line_in None = []
line_in (Some r) = report_line r

-- a line stands in the block behind the `held` bytes that waited, and waits with them
pub record Noted (line block : List ℕ) (held waits : ℕ) (after : List ℕ) : Type 0 where
  pub placed : after ≡ sets block held line
  pub counted : waits ≡ held + length line
  pub within : waits ≤ length block

-- feedings, one after another, none of them refused, of what stands in the input from `from` up to `have`: what reader, what buffers
-- and what place they come to, and the lines of what ended in them
pub data Lists (input : List ℕ) (have : ℕ) (r₀ : Reader) (b₀ : Lent) (from : ℕ) : Reader → Lent → ℕ → List ℕ → Type 0 where
  none : Lists input have r₀ b₀ from r₀ b₀ from []
  took : {r s : Reader} {b d : Lent} {used consumed written : ℕ} {text : List ℕ} {e : (Option Report)}
      → Lists input have r₀ b₀ from r b used text
      → feeding s (Ok (taking consumed written e)) d ≡ feed_of r (take (have - used) (drop used input)) b
      → Lists input have r₀ b₀ from s d (used + consumed) (text ++ line_in e)

-- "as an endpoint, limit 1,200, draft off", and without address capsules; a reader that refuses no piece with buffers of these lengths
pub record Ready (r : Reader) (gathering addresses output : ℕ) : Type 0 where
  pub opened : r.opening ≡ opening Endpoint 1200 false false
  pub accepts : (piece : ℕ) → verdict_of r piece gathering addresses output ≡ (Ok tt)

-- the state has this reader, and is within its blocks
pub record Read (l : Progress) (r : Reader) (input block : ℕ) : Type 0 where
  pub same : l.reader ≡ r
  pub used : l.used ≤ l.have
  pub have : l.have ≤ input
  pub held : l.held ≤ block

-- the state is within its blocks, and its reader is ready
pub record Within (l : Progress) (input gathering addresses output block : ℕ) : Type 0 where
  pub used : l.used ≤ l.have
  pub have : l.have ≤ input
  pub held : l.held ≤ block
  pub ready : Ready l.reader gathering addresses output

-- what was read is listed: the lines stand in the block behind those that waited, and no other byte of it changes; all of it is used up,
-- unless a line might not fit any more
pub record Listed (l : Progress) (input : List ℕ) (b : Lent) (block : List ℕ) (r : Progress) (d : Lent) (after : List ℕ) : Type 0 where
  pub text : List ℕ
  pub lists : Lists input l.have l.reader b l.used r.reader d r.used text
  pub lines : after ≡ sets block l.held text
  pub waits : r.held ≡ l.held + length text
  pub goes_on : r.going ≡ true
  pub used-up : r.held + longest ≤ length block → r.used ≡ l.have
  pub within : Within r (length input) (length b.gathering) (length b.addresses) (length b.output) (length block)
