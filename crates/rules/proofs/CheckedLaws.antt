-- What the structs of a proposal that was read, and of one that passed refusals 1 to 11, tell: `Bounded` and `Ready`, and how long the parts are.
-- Assumes nothing.
use Prim.Native.Nat.{ℕ, ◌*◌, ◌<◌}
use mathlib.Core.Path.{◌≡◌}
use lib.ListN.{length}
use Rattle.table.specs.declared.Point.{Point}
use Rattle.table.specs.Layout.{sizes_of}
use Rattle.table.specs.Decode.{point_of}
use Rattle.table.specs.Passes.{FormedPoint}
use Rattle.rules.specs.declared.proposal.Proposal.{Proposal}
use Rattle.rules.specs.declared.checked.Checked.{Checked}
use Rattle.rules.specs.Proposal.{entries_of, intervals_of}
use Rattle.rules.specs.Ready.{Bounded, Ready}
use Rattle.rules.proofs.ProposalLaws.{passed_table}
use Rattle.rules.proofs.ReadyLaws.{layout-bounded, ready, formed}
use Rattle.rules.proofs.PartsLaws.{lows-length, highs-length, heads-length, entry-lows-length, entry-highs-length}

module _ (p : Proposal) where
  pub bounded_of : Bounded p.table.words.now p.words.now
  bounded_of = layout-bounded (passed_table p.table) p.sized

  pub heads_count : length p.heads.now ≡ 3 * entries_of p.words.now
  heads_count = rw p.parts.heads (heads-length bounded_of)

  pub lows_count : length p.rows.lows.now ≡ intervals_of p.table.words.now p.words.now
  lows_count = rw p.parts.lows (lows-length bounded_of)

  pub highs_count : length p.rows.highs.now ≡ intervals_of p.table.words.now p.words.now
  highs_count = rw p.parts.highs (highs-length bounded_of)

  pub entry_lows_count : length p.spans.lows.now ≡ entries_of p.words.now
  entry_lows_count = rw p.parts.entry_lows (entry-lows-length bounded_of)

  pub entry_highs_count : length p.spans.highs.now ≡ entries_of p.words.now
  entry_highs_count = rw p.parts.entry_highs (entry-highs-length bounded_of)

pub ready_of : (c : Checked) → Ready c.proposal.table.words.now c.proposal.words.now
ready_of c = ready c.proposal.table.words.now c.proposal.words.now c.ready

-- what stands at the point p, as the code reads it
pub formed_at : (c : Checked) (p : ℕ) {x z : Point} → p < (sizes_of c.proposal.table.words.now).points → z ≡ point_of c.proposal.table.points.now p → z ≡ x
    → FormedPoint c.proposal.table.words.now p x
formed_at c p l f g = formed (passed_table c.proposal.table) p l c.proposal.table.cut.points f g
