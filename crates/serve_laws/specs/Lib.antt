pub mod ServeHistories
