use Rattle.page_store.proofs.Views.{lives_test}
use Rattle.page_store.proofs.view.StoreViewPages.lives.Goals as goal

pub returns-clause-lives : goal.returns-clause-lives
returns-clause-lives g c =
    lives_test c.args.self.now.store.now (g.H.Host.disk c.args.self.now.host.now).seen c.args.page c.lives.result c.blocks-blocks.ensures.sound c.lives.ensures.lives.0 c.lives.ensures.lives.1
