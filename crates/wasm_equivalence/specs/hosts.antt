-- What modules run in: embedders, imports that call exports back, and code of the host.
pub mod Embedder
pub mod CallBack
pub mod HostCode
pub mod EmbedderLaws
