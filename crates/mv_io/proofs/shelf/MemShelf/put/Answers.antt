use Rattle.std.proofs.Common.{◌≡◌, string_bytes, rules}
use Rattle.mv_io.proofs.Files.{put_own, put_other}
use Rattle.mv_io.proofs.shelf.MemShelf.put.Goals as goal

pub returns-clause-put : goal.returns-clause-put
returns-clause-put c =
    let key : string_bytes c.in_ok-name.name ≡ c.args.name.now = search rules in
    let bytes : c.in_ok-bytes.bytes.items ≡ c.args.bytes.now = search rules in
    rw (← key, ← bytes) (put_own _ c.self.inside.files c.insert.new.self _ c.in_ok-insert.ensures.updates)

pub returns-clause-others : goal.returns-clause-others
returns-clause-others c = λ other differs.
    let key : string_bytes c.in_ok-name.name ≡ c.args.name.now = search rules in
    rw (← c.self.view_is) (put_other _ c.self.inside.files c.insert.new.self _ c.in_ok-insert.ensures.updates other (rw key differs))
