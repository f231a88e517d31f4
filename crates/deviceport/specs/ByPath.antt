-- When all the arcs that DEVICE means in an instance stand in the bucket of the instance's path.
-- Assumes nothing.
use Rattle.std.specs.Prelude.{ℕ, Bool, List, eqb}
use Rattle.std.proofs.Math.Path.{◌≡◌, refl}
use Rattle.std.proofs.Math.Bool.{true, false}
use Rattle.std.proofs.Common.{arith}
use Rattle.std.proofs.lemmas.Bool.{eqb-false}
use Rattle.classes.specs.Choice.{pick}
use Rattle.names.specs.Name.{canon, full, same_name, one_below, part_of, both}
use Rattle.sheetparts.specs.Form.{key_at, path_at}
use Rattle.sheetlaws.specs.Sheet.{place}
use Rattle.grammar.specs.declared.Entry.{Entry}
use Rattle.entryarcs.specs.Bytes.{device_hit}
use Rattle.entryarcs.specs.Turns.{hits}
use Rattle.bytype.specs.ByType.{bucket_of}
use Rattle.byend.specs.Ends.{below_bucket, end_bucket, one-below-bucket}
use Rattle.byend.specs.Ports.{open_end, plain_from, port-bucket}

-- the entry h of the text has no port, or a plain one in the instance at p, whose path does not end in a backslash
unfoldable pub by_path : (b text : List ℕ) (h : Entry) → ℕ → Bool
by_path b text h p = pick (eqb h.to1 0) true (pick (open_end (path_at b p)) (plain_from (part_of text h.from1 h.to1)) false)

module _ (b text : List ℕ) (slash : Bool) (f : ℕ) (h : Entry) (p : ℕ) (e : by_path b text h p ≡ true) where
  hit-bucket : (q : ℕ) → device_hit b text slash h p q ≡ true → below_bucket (key_at b q).second ≡ bucket_of (path_at b p)
  unfolding device_hit by_path
  hit-bucket q d = by (eqb h.to1 0) (open_end (path_at b p)) refl e (both (eqb (key_at b q).kind 1) _ d).1
    where
      by : (t o : Bool) → open_end (path_at b p) ≡ o → pick t true (pick o (plain_from (part_of text h.from1 h.to1)) false) ≡ true
          → pick t (one_below (path_at b p) (key_at b q).second)
          (same_name (key_at b q).second (full (path_at b p) (canon slash (part_of text h.from1 h.to1)))) ≡ true
          → below_bucket (key_at b q).second ≡ bucket_of (path_at b p)
      by true o z e d = one-below-bucket (path_at b p) (key_at b q).second d
      by false true z e d = port-bucket (path_at b p) (part_of text h.from1 h.to1) (key_at b q).second slash z e d
      by false false z e d = absurd (let y : ◌≡◌ {A = ℕ} 0 1 = cc in omega arith)

  -- so an arc of another bucket is not meant
  pub other_end : (k : ℕ) → eqb (end_bucket b f k) (bucket_of (path_at b p)) ≡ false → hits b text slash f h p k ≡ false
  other_end k g = by (device_hit b text slash h p (place b k f)) refl
    where
      by : (t : Bool) → device_hit b text slash h p (place b k f) ≡ t → t ≡ false
      by true d = absurd (eqb-false _ _ g (hit-bucket (place b k f) d))
      by false d = refl
